use Rattle.std.proofs.Common.{◌≡◌, length, ap, ◌∙◌}
use lib.ListN.{length-replicate}
use Rattle.rules.specs.Lists.{key_of}
use Rattle.rules.specs.Split.{key_at}
use Rattle.numbering.proofs.parts.meet_part_of.Goals as goal

pub returns : goal.returns
unfolding key_at
returns g c =
    let key : c.sort.new.a ≡ key_at c.args.cell.now c.args.places.now = c.sort.ensures ∙ ap key_of c.load.ensures in
    let long : length c.sort.new.a ≡ g.row.C = c.sort.auto.a ∙ c.load.auto.to ∙ length-replicate g.row.C 0 in
    rw (long, key) at c.meet.ensures
