-- Words of inner contracts: the numbers of a cell's parts, and its children's corners from them.
use Rattle.std.specs.Prelude.{List, [], ◌∷◌, ◌++◌, map, ℕ, ◌+◌, get_or}
use Rattle.rules.specs.Lists.{concat_map, cut, up_from, Key, index_of}
use Rattle.rules.specs.Mesh.{Kind, smallest_table}
use Rattle.numbering.specs.Parts.{part_keys}
use Rattle.splitting.specs.declared.kinds.CellKind.{CellKind}
use Rattle.splitting.specs.Kinds.{kind_of, corner_count, edges_of, faces_of}

-- the cells of a flat table, and cell number i
abbrev pub cells_in : CellKind → List ℕ → List (List ℕ)
cells_in kind cells = cut (corner_count kind) cells

abbrev pub entry_of : CellKind → List ℕ → ℕ → List ℕ
entry_of kind cells i = get_or (cells_in kind cells) i []

-- the edges and the faces of some cells, in the order met
abbrev pub edges_met : CellKind → List (List ℕ) → List Key
edges_met kind cs = concat_map (part_keys (edges_of kind)) cs

abbrev pub faces_met : CellKind → List (List ℕ) → List Key
faces_met kind cs = concat_map (part_keys (faces_of kind)) cs

-- the places of keys in a list, counted from `base`
abbrev pub numbers_in : ℕ → List Key → List Key → List ℕ
numbers_in base ks all = map (λ (k : Key). base + index_of k all) ks

-- The numbers of the fine vertices of a cell: its corners, its edges, its faces, its own. `edges` and `faces` are those of the mesh; their
-- vertices are numbered from `edge_base` and from `face_base` on.
unfoldable pub cell_numbers : CellKind → ℕ → List Key → ℕ → List Key → ℕ → List ℕ → List ℕ
cell_numbers kind edge_base edges face_base faces own cell =
    cell ++ (numbers_in edge_base (part_keys (edges_of kind) cell) edges ++ (numbers_in face_base (part_keys (faces_of kind) cell) faces ++ (own ∷ [])))

-- the numbers that a row of the table of smallest parts picks: the corners of a child
abbrev pub picked : List ℕ → List ℕ → List ℕ
picked numbers row = map (λ (q : ℕ). get_or numbers q 0) row

-- the corners of all children, one child after the other
unfoldable pub child_corners : Kind → List ℕ → List ℕ
child_corners κ numbers = concat_map (picked numbers) (smallest_table κ)

-- the corners of the children of the first n cells of a flat table; cell number i has the own number own + i
unfoldable pub first_children : CellKind → ℕ → List Key → ℕ → List Key → ℕ → List ℕ → ℕ → List ℕ
first_children kind edge_base edges face_base faces own cells n =
    concat_map (λ (i : ℕ). child_corners (kind_of kind) (cell_numbers kind edge_base edges face_base faces (own + i) (entry_of kind cells i))) (up_from 0 n)
