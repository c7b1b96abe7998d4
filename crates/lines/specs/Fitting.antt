-- Words of inner contracts: which meshes the listing's output array has places for.
use Rattle.std.specs.Prelude.{◌≡◌, false, ℕ, ◌*◌, ◌≤◌, length}
use Rattle.rules.specs.Mesh.{Mesh}
use Rattle.rules.specs.Refusals.{coordinate_out_of_range}

-- tables of the listing program's sizes, coordinates in their range
pub record Fitting (m : Mesh) : Type 0 where
  pub vertices : length m.vertices ≤ 3 * 1_000
  pub hexes : length m.hexes ≤ 8 * 256
  pub quads : length m.quads ≤ 4 * 256
  pub segments : length m.segments ≤ 2 * 256
  pub points : length m.points ≤ 256
  pub near : coordinate_out_of_range m ≡ false

-- The bytes of the longest listing: a number takes at most 10, so the first line takes at most 60, a vertex 68, a hex 90, a quad 46, a
-- segment 24, a point 13.
abbrev pub output_size : ℕ
output_size = 112_348
