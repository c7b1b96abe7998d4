-- The rounds that are left take the sizes of now where all rounds take those of the start; a round makes no size more than 16 times the largest.
use Rattle.std.proofs.Common.{◌≡◌, ◌-◌}
use Rattle.rules.specs.Counts.{sizes_after}
use Rattle.counting.specs.Bounded.{Bounded}
use Rattle.counting.proofs.Sizes.{bound}
use Rattle.counting.proofs.sizes_after.Given as goal

abbrev pub invariant-loop : goal.invariant-loop
invariant-loop l = record {
  left : sizes_after (l.rounds - l.counter) l.now ≡ sizes_after l.rounds l.fn.s;
  bounded : Bounded (bound l.counter) l.now;
}
