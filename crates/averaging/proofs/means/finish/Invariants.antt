-- The means of the vertices passed are stored, and the others' places are as they were.
use Rattle.std.proofs.Common.{◌≡◌, ℕ, ◌+◌, ◌*◌, ◌≤◌, ◌<◌, get_or, pos}
use Rattle.averaging.specs.Tally.{tally_at}
use Rattle.averaging.specs.Pass.{MeanOf}
use Rattle.averaging.proofs.means.finish.Given as goal

abbrev pub invariant-loop-f : goal.invariant-loop-f
invariant-loop-f l = record {
  means : (a g : ℕ) → a < 3 → g < l.f → MeanOf (tally_at l.tallies a g) (get_or l.out (3 * g + a) (pos 0));
  others_kept : (a g : ℕ) → a < 3 → l.f ≤ g → get_or l.out (3 * g + a) (pos 0) ≡ get_or l.initial.out (3 * g + a) (pos 0);
}
