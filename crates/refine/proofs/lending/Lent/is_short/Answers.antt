-- The four tests.
use Rattle.rules.specs.Counts.{counts_in}
use Rattle.refine.specs.Lengths.{lengths}
use Rattle.refine.proofs.Decided.{short_is}
use Rattle.refine.proofs.lending.Lent.is_short.Goals as goal

pub returns : goal.returns
unfolding counts_in
returns c = short_is (lengths c.args.self) (counts_in c.args.finished) c.fewer.ensures c.fewer-2.ensures
