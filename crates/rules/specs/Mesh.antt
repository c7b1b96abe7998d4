-- Section 1: five tables, four kinds of cells, and the parts of a cell; with the smallest parts of section 2.
use Rattle.std.specs.Prelude.{cond, ◌&&◌, List, [], ◌∷◌, map, ℕ, suc, ◌/◌, length, get_or, ℤ}
use Rattle.rules.specs.Lists.{concat, cut, up_from, has}

-- five flat tables, as they lie in memory: coordinates by vertex and axis, corners as vertex numbers from 0 (rules 1.1 to 1.3)
pub record Mesh : Type 0 where
  pub vertices : List ℤ
  pub hexes : List ℕ
  pub quads : List ℕ
  pub segments : List ℕ
  pub points : List ℕ

-- the mesh that five slices hold, for contracts (rule 1.1)
abbrev pub mesh : List ℤ → List ℕ → List ℕ → List ℕ → List ℕ → Mesh
mesh xs hs qs ss ps = record { vertices = xs; hexes = hs; quads = qs; segments = ss; points = ps }

-- ---- the kinds of cells

-- the four kinds of cells (rule 1.5)
pub data Kind : Type 0 where
  hex quad segment point : Kind

-- in the order in which a mesh is walked; a point has neither edges nor faces (rules 1.5 and 1.9)
abbrev pub kinds : List Kind
kinds = hex ∷ quad ∷ segment ∷ point ∷ []

-- the dimension of a kind (rule 1.5)
abbrev pub dimension : Kind → ℕ
dimension hex = 3
dimension quad = 2
dimension segment = 1
dimension point = 0

-- how many corners a cell has (rule 1.5)
abbrev pub corners : Kind → ℕ
corners hex = 8
corners quad = 4
corners segment = 2
corners point = 1

-- ---- the topology of a mesh: its cells without the positions of its vertices

-- how many vertices there are, and the corners of each cell, kind by kind (rule 1.13)
pub record Topology : Type 0 where
  pub vertex_count : ℕ
  pub hexes : List (List ℕ)
  pub quads : List (List ℕ)
  pub segments : List (List ℕ)
  pub points : List (List ℕ)

-- the cells of one kind (rule 1.13)
abbrev pub cells_of : Topology → Kind → List (List ℕ)
cells_of t hex = t.hexes
cells_of t quad = t.quads
cells_of t segment = t.segments
cells_of t point = t.points

-- the topology of a mesh: its tables cut into entries (rule 1.13)
unfoldable pub topology : Mesh → Topology
topology m = record {
  vertex_count = length m.vertices / 3;
  hexes = cut (corners hex) m.hexes;
  quads = cut (corners quad) m.quads;
  segments = cut (corners segment) m.segments;
  points = cut (corners point) m.points;
}

-- the mesh with the given coordinates and the cells of a topology (rule 3.7)
unfoldable pub mesh_of : List ℤ → Topology → Mesh
mesh_of xs t = record {
  vertices = xs;
  hexes = concat t.hexes;
  quads = concat t.quads;
  segments = concat t.segments;
  points = concat t.points;
}

-- ---- the parts of a cell, by the places of their corners in it. The corners of a quad go round it; those of a hex go round its bottom, and
-- then its top, corner i + 4 above corner i (rule 1.6).

-- the twelve edges of a hex, by the places of their corners: bottom, top, upright (rule 1.7)
abbrev pub hex_edges : List (List ℕ)
hex_edges = (0 ∷ 1 ∷ []) ∷ (1 ∷ 2 ∷ []) ∷ (2 ∷ 3 ∷ []) ∷ (3 ∷ 0 ∷ []) ∷ (4 ∷ 5 ∷ []) ∷ (5 ∷ 6 ∷ []) ∷ (6 ∷ 7 ∷ []) ∷ (7 ∷ 4 ∷ []) ∷ (0 ∷ 4 ∷ []) ∷ (1 ∷ 5 ∷ []) ∷ (2 ∷ 6 ∷ []) ∷ (3 ∷ 7 ∷ []) ∷ []

-- the six faces of a hex, by the places of their corners in going round (rule 1.8)
abbrev pub hex_faces : List (List ℕ)
hex_faces = (0 ∷ 1 ∷ 2 ∷ 3 ∷ []) ∷ (4 ∷ 5 ∷ 6 ∷ 7 ∷ []) ∷ (0 ∷ 1 ∷ 5 ∷ 4 ∷ []) ∷ (1 ∷ 2 ∷ 6 ∷ 5 ∷ []) ∷ (2 ∷ 3 ∷ 7 ∷ 6 ∷ []) ∷ (3 ∷ 0 ∷ 4 ∷ 7 ∷ []) ∷ []

-- the four edges of a quad in going round; a quad is one face, a segment one edge (rule 1.9)
abbrev pub quad_edges : List (List ℕ)
quad_edges = (0 ∷ 1 ∷ []) ∷ (1 ∷ 2 ∷ []) ∷ (2 ∷ 3 ∷ []) ∷ (3 ∷ 0 ∷ []) ∷ []

-- all corner places of a cell (rule 1.5)
unfoldable pub whole : Kind → List ℕ
whole κ = up_from 0 (corners κ)

-- each of the numbers 0 to n - 1 as a part by itself (rule 2.5)
unfoldable pub singles : ℕ → List (List ℕ)
singles n = map (λ (j : ℕ). j ∷ []) (up_from 0 n)

-- the parts of a cell by dimension: its corners, edges, faces, and the hex itself (rule 1.5)
unfoldable pub by_dimension : Kind → List (List (List ℕ))
by_dimension hex = singles 8 ∷ hex_edges ∷ hex_faces ∷ (whole hex ∷ []) ∷ []
by_dimension quad = singles 4 ∷ quad_edges ∷ (whole quad ∷ []) ∷ []
by_dimension segment = singles 2 ∷ (whole segment ∷ []) ∷ []
by_dimension point = singles 1 ∷ []

-- the parts of dimension d (rule 1.5)
unfoldable pub places : Kind → ℕ → List (List ℕ)
places κ d = get_or (by_dimension κ) d []

-- all parts, the lower dimensions first: their order is their numbering (rule 2.5)
unfoldable pub cell_parts : Kind → List (List ℕ)
cell_parts κ = concat (by_dimension κ)

-- the number of the first part of a list that holds the places i and j (rule 2.6)
unfoldable pub first_holding : ℕ → ℕ → List (List ℕ) → ℕ
first_holding i j [] = 0
first_holding i j (p ∷ ps) = let r = first_holding i j ps in cond (has i p && has j p) 0 (suc r)

-- the part of lowest dimension that holds the places i and j; for i = j it is that corner (rule 2.6)
unfoldable pub smallest : Kind → ℕ → ℕ → List ℕ
smallest κ i j = let ps = cell_parts κ in get_or ps (first_holding i j ps) []

-- in row i and column j the number of the smallest part for i and j (rules 2.7 and 2.8)
unfoldable pub smallest_table : Kind → List (List ℕ)
smallest_table κ = map (λ (i : ℕ). map (λ (j : ℕ). first_holding i j (cell_parts κ)) (whole κ)) (whole κ)

-- corner k of part number p of a list of parts; also what stands in row p and column k of a table
abbrev pub place_of : List (List ℕ) → ℕ → ℕ → ℕ
place_of ps p k = get_or (get_or ps p []) k 0
