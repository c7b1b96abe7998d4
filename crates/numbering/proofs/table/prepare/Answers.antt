use Rattle.std.proofs.Common.{◌≡◌, ◌+◌, length, take}
use lib.ListN.{length-replicate}
use lib.Seq.{length-take-le}
use Rattle.rules.specs.Lists.{overwritten}
use Rattle.numbering.proofs.table.prepare.Goals as goal

pub returns : goal.returns
unfolding overwritten
returns c =
    let n : length (take (c.args.room + 1) c.args.w.now) ≡ c.args.room + 1 = length-take-le (c.args.room + 1) c.args.w.now c.requires in
    rw (c.fill.ensures.after (λ y e. e), n, length-replicate)
