use Rattle.checks.proofs.Duplicates.{duplicates_by_count}
use Rattle.checks.proofs.by_classes.has_duplicate.Goals as goal

pub returns-in-Ok : goal.returns-in-Ok
returns-in-Ok c = duplicates_by_count c.args.k c.args.cells.now c.in-Ok.n c.in-Ok.ensures.count_is
