-- Words of inner contracts: the two tables, of the edges and of the faces, while cells are walked.
use Rattle.std.specs.Prelude.{◌≡◌, List, ◌++◌, ℕ, ◌+◌, ◌/◌, ◌≤◌, length}
use Rattle.rules.specs.Lists.{overwritten, Key, meet_all}
use Rattle.tables.specs.Lent.{SameSlice}
use Rattle.numbering.specs.Table.{keys, Table, MetAll}
use Rattle.numbering.specs.Parts.{part_keys}
use Rattle.splitting.specs.declared.kinds.CellKind.{CellKind}
use Rattle.splitting.specs.declared.given.Base.{Base}
use Rattle.splitting.specs.declared.cells.PartTables.{PartTables}
use Rattle.splitting.specs.Kinds.{kind_of, corner_count, edges_of, faces_of}
use Rattle.splitting.specs.Cells.{cells_in, edges_met, faces_met, cell_numbers, child_corners, first_children}

-- a call returns the very words of both tables that it was lent
pub record SameTables (old new : PartTables) : Type 0 where
  pub edge_words : SameSlice old.edge_words new.edge_words
  pub face_words : SameSlice old.face_words new.face_words

-- the edges and the faces met so far
abbrev pub edges_in : Base → PartTables → List Key
edges_in base t = keys 2 t.edge_words.now base.edges t.known.edges

abbrev pub faces_in : Base → PartTables → List Key
faces_in base t = keys 4 t.face_words.now base.faces t.known.faces

-- the words hold two tables of no key
pub record NoneMet (base : Base) (t : PartTables) : Type 0 where
  pub edge_table : Table 2 t.edge_words.now base.edges 0
  pub face_table : Table 4 t.face_words.now base.faces 0
  pub no_edge : t.known.edges ≡ 0
  pub no_face : t.known.faces ≡ 0

-- the words hold both tables, with room for the keys that are met next
pub record Room (base : Base) (t : PartTables) (es fs : List Key) : Type 0 where
  pub edge_table : Table 2 t.edge_words.now base.edges t.known.edges
  pub face_table : Table 4 t.face_words.now base.faces t.known.faces
  pub edges_fit : length (meet_all (edges_in base t) es) ≤ base.edges
  pub faces_fit : length (meet_all (faces_in base t) fs) ≤ base.faces

-- the edges es and the faces fs were met, each in its table
pub record BothMet (base : Base) (t t' : PartTables) (es fs : List Key) : Type 0 where
  pub edges : MetAll 2 t.edge_words.now t'.edge_words.now base.edges t.known.edges es t'.known.edges
  pub faces : MetAll 4 t.face_words.now t'.face_words.now base.faces t.known.faces fs t'.known.faces

-- The numbers of a cell's fine vertices, as it is met: they stay, whatever edges and faces are met later.
abbrev pub numbers_at : Base → PartTables → CellKind → List ℕ → ℕ → List Key → List Key → List ℕ
numbers_at base t kind cell own es fs =
    cell_numbers kind base.vertices (meet_all (edges_in base t) (part_keys (edges_of kind) cell ++ es)) (base.vertices + base.edges)
    (meet_all (faces_in base t) (part_keys (faces_of kind) cell ++ fs)) own cell

abbrev pub CellNumbered : Base → PartTables → CellKind → List ℕ → ℕ → List ℕ → List ℕ → Type 0
CellNumbered base t kind cell own old new = (es fs : List Key) → new ≡ overwritten old (numbers_at base t kind cell own es fs)

-- the corners of its children, stored at the front
abbrev pub CellSplit : Base → PartTables → CellKind → List ℕ → ℕ → List ℕ → List ℕ → Type 0
CellSplit base t kind cell own old new =
    (es fs : List Key) → new ≡ overwritten old (child_corners (kind_of kind) (numbers_at base t kind cell own es fs))

-- the corners of the children of the first n cells of a table
abbrev pub children_in : Base → PartTables → CellKind → List ℕ → ℕ → List Key → List Key → ℕ → List ℕ
children_in base t kind cells own es fs n =
    first_children kind base.vertices (meet_all (edges_in base t) (edges_met kind (cells_in kind cells) ++ es)) (base.vertices + base.edges)
    (meet_all (faces_in base t) (faces_met kind (cells_in kind cells) ++ fs)) own cells n

-- those of all its cells, stored at the front
abbrev pub TableSplit : Base → PartTables → CellKind → List ℕ → ℕ → List ℕ → List ℕ → Type 0
TableSplit base t kind cells own old new =
    (es fs : List Key) → new ≡ overwritten old (children_in base t kind cells own es fs (length cells / corner_count kind))
