use Rattle.std.proofs.Common.{◌≡◌, length, ap, ◌∙◌}
use Rattle.rules.specs.Lists.{key_of}
use Rattle.rules.specs.Split.{key_at}
use Rattle.numbering.proofs.parts.meet_part.Goals as goal

pub returns : goal.returns
unfolding key_at
returns c =
    let key : c.sort.new.a ≡ key_at c.args.cell.now c.args.places.now = c.sort.ensures ∙ ap key_of c.load.ensures in
    let long : length c.sort.new.a ≡ length c.args.key.now = c.sort.auto.a ∙ c.load.auto.to in
    rw (long, key) at c.meet.ensures
