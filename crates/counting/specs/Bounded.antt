-- Words of inner contracts: sizes up to a bound.
use Rattle.std.specs.Prelude.{ℕ, ◌≤◌, ◌<◌, ◌^◌}
use Rattle.rules.specs.declared.Sizes.{Sizes}

pub record Bounded (b : ℕ) (s : Sizes) : Type 0 where
  pub vertices : s.vertices ≤ b
  pub edges : s.edges ≤ b
  pub faces : s.faces ≤ b
  pub hexes : s.hexes ≤ b
  pub quads : s.quads ≤ b
  pub segments : s.segments ≤ b
  pub points : s.points ≤ b

-- the five counts fit 32 bits
pub record Narrow (s : Sizes) : Type 0 where
  pub vertices : s.vertices < 2 ^ 32
  pub hexes : s.hexes < 2 ^ 32
  pub quads : s.quads < 2 ^ 32
  pub segments : s.segments < 2 ^ 32
  pub points : s.points < 2 ^ 32
