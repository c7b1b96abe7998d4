-- The first j corners are read.
use Rattle.std.proofs.Common.{◌≡◌, ℕ, ◌<◌, [], get_or, length}
use Rattle.checks.specs.Walk.{parts_in}
use Rattle.checks.proofs.parts.read_in.Given as goal

abbrev pub invariant-loop-j : goal.invariant-loop-j
invariant-loop-j g l = record {
  long : length l.corner-items ≡ g.row.C;
  so_far : (q : ℕ) → q < l.j → get_or l.corner-items q 0 ≡ get_or (get_or (parts_in l.of l.cells) l.i []) q 0;
}
