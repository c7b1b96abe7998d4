-- The parts of each kind of cells, as the numbering has them. Assumes nothing.
use mathlib.Core.Path.{◌≡◌, refl}
use mathlib.Core.List.{List}
use Prim.Native.Nat.{ℕ, ◌+◌, ◌*◌, ◌/◌, ◌≤◌, ◌<◌}
use native.Mathlib.Omega.{arith}
use lib.ListN.{length, length-append, length-map}
use Rattle.rules.specs.Lists.{concat, up_from, Key, index_of}
use Rattle.rules.specs.Mesh.{singles, by_dimension, places, cell_parts}
use Rattle.numbering.specs.Parts.{places_of, part_corners, cell_corners, part_keys, Within, listed_keys}
use Rattle.numbering.proofs.Places.{length_part_keys, list_size, few_listed, listed_within, sized_count, sized_keys}
use Rattle.splitting.specs.declared.kinds.CellKind.{CellKind}
use Rattle.splitting.specs.declared.kinds.CellKind.TheVariants.{Hex, Quad, Segment}
use Rattle.splitting.specs.Kinds.{kind_of, corner_count, edges_of, faces_of}
use Rattle.splitting.specs.declared.given.Setting.{Setting}
use Rattle.splitting.specs.Cells.{cell_numbers}

pub edge_corners : (kind : CellKind) → 2 ≡ part_corners (edges_of kind)
edge_corners Hex = refl
edge_corners Quad = refl
edge_corners Segment = refl

pub face_corners : (kind : CellKind) → 4 ≡ part_corners (faces_of kind)
face_corners Hex = refl
face_corners Quad = refl
face_corners Segment = refl

edge_cell : (kind : CellKind) → cell_corners (edges_of kind) ≡ corner_count kind
edge_cell Hex = refl
edge_cell Quad = refl
edge_cell Segment = refl

face_cell : (kind : CellKind) → cell_corners (faces_of kind) ≡ corner_count kind
face_cell Hex = refl
face_cell Quad = refl
face_cell Segment = refl

pub edge_places : (kind : CellKind) → places_of (edges_of kind) ≡ places (kind_of kind) 1
edge_places Hex = refl
edge_places Quad = refl
edge_places Segment = refl

pub face_places : (kind : CellKind) → places_of (faces_of kind) ≡ places (kind_of kind) 2
face_places Hex = refl
face_places Quad = refl
face_places Segment = refl

-- the lists of their corners' places have room in an array of 24
pub edges_short : (kind : CellKind) → 2 * length (places_of (edges_of kind)) ≤ 24
edges_short kind = omega (arith, list_size (edges_of kind) 2 _ (edge_corners kind) refl, few_listed (edges_of kind))

pub faces_short : (kind : CellKind) → 4 * length (places_of (faces_of kind)) ≤ 24
faces_short kind = omega (arith, list_size (faces_of kind) 4 _ (face_corners kind) refl, few_listed (faces_of kind))

-- the numbers of a cell's fine vertices are at most 27
pub numbers_fit : (kind : CellKind) → corner_count kind + length (places_of (edges_of kind)) + length (places_of (faces_of kind)) + 1 ≤ 27
unfolding places by_dimension
numbers_fit Hex = omega arith
numbers_fit Quad = omega arith
numbers_fit Segment = omega arith

-- and as many as the cell has parts, or one more
parts_few : (kind : CellKind) → length (cell_parts (kind_of kind)) ≤ corner_count kind + length (places_of (edges_of kind)) + length (places_of (faces_of kind)) + 1
unfolding cell_parts places by_dimension singles concat up_from
parts_few Hex = omega arith
parts_few Quad = omega arith
parts_few Segment = omega arith

pub numbers_all : (kind : CellKind) (eb : ℕ) (es : List Key) (fb : ℕ) (fs : List Key) (own : ℕ) (cell : List ℕ) → length cell ≡ corner_count kind → length (cell_parts (kind_of kind)) ≤ length (cell_numbers kind eb es fb fs own cell)
unfolding cell_numbers
numbers_all kind eb es fb fs own cell e =
    let m = length-map (part_keys (edges_of kind) cell) (λ (k : Key). eb + index_of k es) in
    let n = length-map (part_keys (faces_of kind) cell) (λ (k : Key). fb + index_of k fs) in
    simp length-append (omega (arith, parts_few kind, length_part_keys (edges_of kind) cell, length_part_keys (faces_of kind) cell))

pub few_corners : (kind : CellKind) → corner_count kind ≤ 8
few_corners Hex = omega arith
few_corners Quad = omega arith
few_corners Segment = omega arith

pub some_corners : (kind : CellKind) → 0 < corner_count kind
some_corners Hex = omega arith
some_corners Quad = omega arith
some_corners Segment = omega arith

-- ---- the lists that are lent

module _ (s : Setting) where
  pub edges_listed : (cell : List ℕ) → listed_keys 2 s.edges.now cell ≡ part_keys (edges_of s.kind) cell
  edges_listed cell = rw s.edges_are (sized_keys (edges_of s.kind) 2 (edge_corners s.kind) cell)

  pub faces_listed : (cell : List ℕ) → listed_keys 4 s.faces.now cell ≡ part_keys (faces_of s.kind) cell
  faces_listed cell = rw s.faces_are (sized_keys (faces_of s.kind) 4 (face_corners s.kind) cell)

  pub edges_counted : length s.edges.now / 2 ≡ length (places_of (edges_of s.kind))
  edges_counted = rw s.edges_are (sized_count (edges_of s.kind) 2 (edge_corners s.kind))

  pub faces_counted : length s.faces.now / 4 ≡ length (places_of (faces_of s.kind))
  faces_counted = rw s.faces_are (sized_count (faces_of s.kind) 4 (face_corners s.kind))

  module _ (cell : List ℕ) (e : length cell ≡ corner_count s.kind) where
    pub edges_within : Within (length cell) s.edges.now
    edges_within = rw (s.edges_are, e, ← edge_cell s.kind) (listed_within (edges_of s.kind))

    pub faces_within : Within (length cell) s.faces.now
    faces_within = rw (s.faces_are, e, ← face_cell s.kind) (listed_within (faces_of s.kind))

    -- the numbers of the cell's fine vertices are few
    pub few_fine : length cell + length s.edges.now / 2 + length s.faces.now / 4 + 1 ≤ 27
    few_fine = omega (arith, numbers_fit s.kind, e, edges_counted, faces_counted)
