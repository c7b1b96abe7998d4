-- The copy is refined in place.
use Rattle.rounds.proofs.Copied.{copy_fits, ready_copied, copy_refined}
use Rattle.rounds.proofs.make_rounds.Goals as goal

pub copy_from-requires : goal.copy_from-requires
copy_from-requires c = copy_fits c.requires

pub turns-requires : goal.turns-requires
turns-requires c = ready_copied c.requires _ c.copy_from.ensures.after

pub returns-clause-refined : goal.returns-clause-refined
returns-clause-refined c = copy_refined c.requires _ c.copy_from.ensures.after _ c.turns.ensures.refined
