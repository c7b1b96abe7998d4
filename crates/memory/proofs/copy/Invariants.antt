-- The first i elements are stored.
use Rattle.memory.proofs.Stores.{Storing}
use Rattle.memory.proofs.copy.Given as goal

abbrev pub invariant-loop-i : goal.invariant-loop-i
invariant-loop-i g l = Storing 0 l.src l.fn.dst l.dst l.i
