-- Words of inner contracts: what the averaging of a round needs.
use Rattle.std.specs.Prelude.{◌≡◌, false, List, ℕ, ◌*◌, ◌≤◌, length}
use Rattle.rules.specs.Lists.{concat}
use Rattle.rules.specs.Mesh.{Mesh, Kind, hex, quad, segment, point, topology, cells_of}
use Rattle.rules.specs.Split.{parts, split}
use Rattle.rules.specs.Refusals.{coordinate_out_of_range}
use Rattle.soundness.specs.Sound.{Sound}

-- the flat table of a kind of cells
abbrev pub table : Mesh → Kind → List ℕ
table m hex = m.hexes
table m quad = m.quads
table m segment = m.segments
table m point = m.points

-- m is sound and its coordinates are in range; `fine` has the tables of its fine cells; there is room for `count` fine vertices.
pub record Ready (m fine : Mesh) (count words longs out : ℕ) : Type 0 where
  pub sound : Sound (topology m)
  pub near : coordinate_out_of_range m ≡ false
  pub cells : (κ : Kind) → table fine κ ≡ concat (cells_of (split (topology m)) κ)
  pub few : (κ : Kind) → length (cells_of (split (topology m)) κ) ≤ 250_000
  pub counted : count ≡ length (parts (topology m))
  pub words_fit : 2 * count ≤ words
  pub longs_fit : 3 * count ≤ longs
  pub out_fits : 3 * count ≤ out
