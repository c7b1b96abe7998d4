-- Words of inner contracts: the header that a mesh calls for, and the code's layout against the rules'.
use Rattle.std.specs.Prelude.{◌≡◌, ◌+◌, ◌*◌}
use Rattle.rules.specs.declared.Counts.{Counts}
use Rattle.rules.specs.Bits.{bytes_for}
use Rattle.rules.specs.StoredForm.{Header, form_number, index_width, layout}
use Rattle.stored.specs.declared.layout.Layout.{Layout}

-- the header of a file with these counts
abbrev pub header_for : Counts → Header
header_for c = record { form = form_number; width = index_width c; counts = c }

-- r is the layout of a file with these counts
pub record Laid (c : Counts) (r : Layout) : Type 0 where
  pub width : r.width ≡ index_width c
  pub hexes : r.hexes ≡ (layout (header_for c)).hexes
  pub quads : r.quads ≡ (layout (header_for c)).quads
  pub segments : r.segments ≡ (layout (header_for c)).segments
  pub points : r.points ≡ (layout (header_for c)).points
  pub corners : r.corners ≡ 8 * c.hexes + (4 * c.quads + (2 * c.segments + c.points))
  pub end : r.end ≡ (layout (header_for c)).end
  pub bytes : r.bytes ≡ bytes_for (layout (header_for c)).end
