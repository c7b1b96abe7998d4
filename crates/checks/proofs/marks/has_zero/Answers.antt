use Rattle.std.proofs.Common.{◌∙◌}
use Rattle.rules.specs.Lists.{has}
use Rattle.checks.proofs.Library.{has_contains}
use Rattle.checks.proofs.marks.has_zero.Goals as goal

pub returns : goal.returns
unfolding has
returns c = c.contains.ensures.value ∙ has_contains 0 c.args.w.now
