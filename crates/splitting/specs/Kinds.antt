-- Words of inner contracts: the kinds of cells that are split, in the words of the rules and of the numbering.
use Rattle.std.specs.Prelude.{List, ℕ}
use Rattle.rules.specs.Lists.{concat}
use Rattle.rules.specs.Mesh.{Kind, hex, quad, segment, corners, smallest_table}
use Rattle.numbering.specs.declared.parts.Parts.{Parts}
use Rattle.numbering.specs.declared.parts.Parts.TheVariants.{HexEdges, HexFaces, QuadEdges, Quads, Segments, SegmentFaces}
use Rattle.splitting.specs.declared.kinds.CellKind.{CellKind}
use Rattle.splitting.specs.declared.kinds.CellKind.TheVariants.{Hex, Quad, Segment}

abbrev pub kind_of : CellKind → Kind
kind_of Hex = hex
kind_of Quad = quad
kind_of Segment = segment

abbrev pub corner_count : CellKind → ℕ
corner_count kind = corners (kind_of kind)

abbrev pub edges_of : CellKind → Parts
edges_of Hex = HexEdges
edges_of Quad = QuadEdges
edges_of Segment = Segments

abbrev pub faces_of : CellKind → Parts
faces_of Hex = HexFaces
faces_of Quad = Quads
faces_of Segment = SegmentFaces

-- the table of smallest parts, row behind row
unfoldable pub smallest_listed : CellKind → List ℕ
smallest_listed kind = concat (smallest_table (kind_of kind))
