use Rattle.std.proofs.Common.{◌∙◌}
use Rattle.checks.proofs.Library.{has_contains}
use Rattle.checks.proofs.cells.has_number.Goals as goal

pub returns : goal.returns
returns c = c.contains.ensures.value ∙ has_contains c.args.x c.args.ys.now
