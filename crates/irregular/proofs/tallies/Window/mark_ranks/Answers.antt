use Rattle.std.proofs.Common.{refl}
use Rattle.irregular.proofs.tallies.Window.mark_ranks.Goals as goal

pub returns-clause-kept : goal.returns-clause-kept
returns-clause-kept c = (refl, refl)
