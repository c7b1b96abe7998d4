-- The coordinates of the corners passed stand in the array.
use Rattle.std.proofs.Common.{◌≡◌, ℕ, ◌<◌, ◌^◌, length}
use Rattle.averaging.specs.Pass.{gathered_at, corner_coordinate}
use Rattle.averaging.proofs.coordinates.Gathered.of.Given as goal

abbrev pub invariant-loop-u : goal.invariant-loop-u
invariant-loop-u g l = record {
  whole : length l.corners ≡ g.row.N;
  passed : (v a : ℕ) → v < l.u → a < 3 → (gathered_at l.corners a v ≡ corner_coordinate l.vertices l.cell a v) × (gathered_at l.corners a v < 2 ^ 30);
}
