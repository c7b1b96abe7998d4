-- Words of inner contracts: a mesh that passes checks 1 to 8, with checks 4 to 8 as statements.
use Rattle.std.specs.Prelude.{◌≡◌, false}
use Rattle.rules.specs.Mesh.{Mesh, topology}
use Rattle.rules.specs.Refusals.{partial_entry, count_out_of_range, coordinate_out_of_range}
use Rattle.soundness.specs.Sound.{Sound}

pub record Accepted (m : Mesh) : Type 0 where
  -- 1: each table has whole entries
  pub entire : partial_entry m ≡ false
  -- 2: the counts are in their ranges
  pub counted : count_out_of_range m ≡ false
  -- 3: the coordinates are in their range
  pub near : coordinate_out_of_range m ≡ false
  -- 4 to 8
  pub sound : Sound (topology m)
