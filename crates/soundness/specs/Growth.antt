-- Words of inner contracts: sizes and counts, compared with each other and with the ranges.
use Rattle.std.specs.Prelude.{◌<◌, ◌≤◌}
use Rattle.rules.specs.declared.Counts.{Counts}
use Rattle.rules.specs.declared.Sizes.{Sizes}

-- no size in a is above the one in b
pub record AtMost (a b : Sizes) : Type 0 where
  pub vertices : a.vertices ≤ b.vertices
  pub edges : a.edges ≤ b.edges
  pub faces : a.faces ≤ b.faces
  pub hexes : a.hexes ≤ b.hexes
  pub quads : a.quads ≤ b.quads
  pub segments : a.segments ≤ b.segments
  pub points : a.points ≤ b.points

-- The counts are in their ranges (rule 1.4 of docs/SPECIFICATION.md).
pub record InRange (c : Counts) : Type 0 where
  pub some : 0 < c.vertices
  pub vertices : c.vertices ≤ 1_000_000
  pub hexes : c.hexes ≤ 250_000
  pub quads : c.quads ≤ 250_000
  pub segments : c.segments ≤ 250_000
  pub points : c.points ≤ 250_000
