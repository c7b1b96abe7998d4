-- The constant tables of the code are those of the rules, each computed as a whole. Assumes nothing.
use Rattle.std.proofs.Common.{◌≡◌, refl}
use Rattle.rules.specs.declared.tables.TheConstants.{HEX_EDGES, HEX_FACES, QUAD_EDGES, HEX_SMALLEST, QUAD_SMALLEST, SEGMENT_SMALLEST}
use Rattle.rules.specs.Lists.{any, concat, up_from, has}
use Rattle.rules.specs.Mesh.{hex, quad, segment, hex_edges, hex_faces, quad_edges, singles, whole, by_dimension, cell_parts, first_holding, smallest_table}

pub hex_edges_listed : HEX_EDGES ≡ hex_edges
hex_edges_listed = refl

pub hex_faces_listed : HEX_FACES ≡ hex_faces
hex_faces_listed = refl

pub quad_edges_listed : QUAD_EDGES ≡ quad_edges
quad_edges_listed = refl

pub hex_smallest_listed : HEX_SMALLEST ≡ smallest_table hex
unfolding smallest_table first_holding cell_parts by_dimension singles whole concat up_from has any
hex_smallest_listed = refl

pub quad_smallest_listed : QUAD_SMALLEST ≡ smallest_table quad
unfolding smallest_table first_holding cell_parts by_dimension singles whole concat up_from has any
quad_smallest_listed = refl

pub segment_smallest_listed : SEGMENT_SMALLEST ≡ smallest_table segment
unfolding smallest_table first_holding cell_parts by_dimension singles whole concat up_from has any
segment_smallest_listed = refl
