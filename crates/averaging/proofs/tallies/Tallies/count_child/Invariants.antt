-- The child has counted for the corners passed.
use Rattle.std.proofs.Common.{ℕ, get_or}
use Rattle.averaging.specs.Tally.{repeat, corner_step, Tallied}
use Rattle.averaging.proofs.tallies.Tallies.count_child.Given as goal

abbrev pub invariant-loop-corner : goal.invariant-loop-corner
invariant-loop-corner g l =
    Tallied l.corner-index (λ (a : ℕ). repeat l.corner-index (λ (j : ℕ). corner_step l.d (get_or l.sums a 0) (get_or l.child j 0))) l.initial.self l.self
