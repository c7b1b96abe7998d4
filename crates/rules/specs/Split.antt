-- Section 2: the edges and faces of a mesh, the numbers of the fine vertices, and the children of a cell.
use Rattle.std.specs.Prelude.{List, ◌++◌, map, ℕ, length, get_or}
use Rattle.rules.specs.Lists.{concat_map, Key, key_of, index_of, distinct}
use Rattle.rules.specs.Mesh.{Kind, hex, quad, segment, point, kinds, Topology, cells_of, whole, singles, places, smallest}

-- the corners of a cell at some places, in their order (rule 1.3)
unfoldable pub corners_at : List ℕ → List ℕ → List ℕ
corners_at cell ps = map (λ (j : ℕ). get_or cell j 0) ps

-- edges, or faces, with one set of corners are one (rule 1.10)
unfoldable pub key_at : List ℕ → List ℕ → Key
key_at cell ps = key_of (corners_at cell ps)

-- the parts of dimension d of all cells in the order met: hexes, quads, segments, each table in its order (rule 2.2)
unfoldable pub met : Topology → ℕ → List (List ℕ)
met t d = concat_map (λ (κ : Kind). concat_map (λ (cell : List ℕ). map (corners_at cell) (places κ d)) (cells_of t κ)) kinds

-- the edges (d = 1), faces (2) and hexes (3) of a mesh in the order first met; check 6 lets each hex be met once (rule 2.2)
unfoldable pub distinct_parts : Topology → ℕ → List Key
distinct_parts t d = distinct (map key_of (met t d))

-- the edges of a mesh, in the order of their numbers (rule 2.2)
abbrev pub edges : Topology → List Key
edges t = distinct_parts t 1

-- the faces of a mesh, in the order of their numbers (rule 2.2)
abbrev pub faces : Topology → List Key
faces t = distinct_parts t 2

-- the parts of a mesh as corner sets: fine vertex f belongs to part f; old vertices, edges, faces, hexes (rule 2.3)
unfoldable pub parts : Topology → List Key
parts t = singles t.vertex_count ++ (edges t ++ (faces t ++ distinct_parts t 3))

-- the fine vertex of a part of a cell; `numbered` are the parts of the mesh (rules 2.3 and 2.4)
unfoldable pub fine_vertex : List Key → List ℕ → List ℕ → ℕ
fine_vertex numbered cell ps = index_of (key_at cell ps) numbered

-- corner j of child i is the fine vertex of the parent's smallest part for i and j (rule 2.10)
unfoldable pub child : List Key → Kind → List ℕ → ℕ → List ℕ
child numbered κ cell i = map (λ (j : ℕ). fine_vertex numbered cell (smallest κ i j)) (whole κ)

-- a child for each corner, in corner order; a point is its own child (rules 2.9 and 2.11)
unfoldable pub children : List Key → Kind → List ℕ → List (List ℕ)
children numbered κ cell = map (child numbered κ cell) (whole κ)

-- the fine cells, the children in their parents' places (rule 2.12)
unfoldable pub split_by : List Key → Topology → Topology
split_by numbered t = record {
  vertex_count = length numbered;
  hexes = concat_map (children numbered hex) t.hexes;
  quads = concat_map (children numbered quad) t.quads;
  segments = concat_map (children numbered segment) t.segments;
  points = concat_map (children numbered point) t.points;
}

-- the fine topology (rule 2.12)
unfoldable pub split : Topology → Topology
split t = split_by (parts t) t
