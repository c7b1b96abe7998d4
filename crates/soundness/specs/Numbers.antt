-- Words of inner contracts: where the numbers of the fine vertices start, part by part.
use Rattle.std.specs.Prelude.{List, ℕ, zero, suc, ◌+◌, length}
use Rattle.rules.specs.Lists.{index_of}
use Rattle.rules.specs.Mesh.{Topology}
use Rattle.rules.specs.Split.{key_at, distinct_parts, edges, faces}

-- The number of the first fine vertex of dimension d: old vertices, then edges, faces, hexes (rule 2.3 of docs/SPECIFICATION.md).
abbrev pub start : Topology → ℕ → ℕ
start t zero = 0
start t (suc zero) = t.vertex_count
start t (suc (suc zero)) = t.vertex_count + length (edges t)
start t (suc (suc (suc d))) = t.vertex_count + (length (edges t) + length (faces t))

-- The number of the fine vertex of a part of a cell, of dimension 1, 2 or 3: an edge's is V + its place among the edges, a face's
-- V + E + its place among the faces, a hex's V + E + F + its place among the hexes.
abbrev pub number_of : Topology → List ℕ → ℕ → List ℕ → ℕ
number_of t cell d p = start t d + index_of (key_at cell p) (distinct_parts t d)
