-- Section 7: the conditions 1 to 10, each over the whole mesh, true where the refusal is given. 13 to 16 concern the stored form and stand there.
use Rattle.std.specs.Prelude.{Bool, true, false, not, ◌&&◌, ◌||◌, List, map, ℕ, ◌%◌, length, ℤ, pos, negsuc, leb, ltb, eqb}
use Rattle.std.specs.Int.Signed.{lt_z}
use Rattle.rules.specs.Lists.{any, repeats, up_from, has, Key, key_of, same}
use Rattle.rules.specs.Mesh.{Mesh, Kind, hex, quad, segment, kinds, corners, Topology, topology, cells_of, quad_edges}
use Rattle.rules.specs.Split.{key_at, met}
use Rattle.rules.specs.Counts.{counts_of, finished_counts, out_of_range}

-- the number of a check that fails, and else what the later checks say; 0 is no refusal (rule 6.2)
abbrev pub check : Bool → ℕ → ℕ → ℕ
check true number later = number
check false number later = later

-- ---- 1: partial entry (trade: ragged table)

-- a length is no multiple of its entry (rule 7.1)
unfoldable pub partial_entry : Mesh → Bool
partial_entry m =
    not (eqb (length m.vertices % 3) 0)
    || (not (eqb (length m.hexes % corners hex) 0)
    || (not (eqb (length m.quads % corners quad) 0)
    || not (eqb (length m.segments % corners segment) 0)))

-- ---- 2: count out of range (wrong size)

-- the counts of the tables are out of range (rule 7.2)
unfoldable pub count_out_of_range : Mesh → Bool
count_out_of_range m = out_of_range (counts_of m)

-- ---- 3: coordinate out of range (far vertex)

-- a coordinate is not of the range (rule 1.2)
unfoldable pub outside : ℤ → Bool
outside z = lt_z z (negsuc 536_870_911) || lt_z (pos 536_870_911) z

-- some coordinate is (rule 7.3)
unfoldable pub coordinate_out_of_range : Mesh → Bool
coordinate_out_of_range m = any outside m.vertices

-- ---- 4: corner out of range (unknown corner)

-- a corner is not below the count of vertices (rule 7.4)
unfoldable pub corner_out_of_range : Topology → Bool
corner_out_of_range t = any (λ (κ : Kind). any (any (leb t.vertex_count)) (cells_of t κ)) kinds

-- ---- 5: repeated corner (folded cell)

-- a cell names one vertex at two places (rule 7.5)
unfoldable pub repeated_corner : Topology → Bool
repeated_corner t = any (λ (κ : Kind). any (repeats eqb) (cells_of t κ)) kinds

-- ---- 6: duplicate cell (doubled cell)

-- two cells of a kind have the same set of corners (rule 7.6)
unfoldable pub duplicate_cell : Topology → Bool
duplicate_cell t = any (λ (κ : Kind). repeats same (map key_of (cells_of t κ))) kinds

-- ---- 7: mismatched face (twisted face)

-- the pairs of neighbours in going round a face (rule 7.7)
unfoldable pub ring : List ℕ → List Key
ring face = map (key_at face) quad_edges

-- the two faces have the same set of corners, and some neighbours in f are none in g (rule 7.7)
unfoldable pub mismatched : List ℕ → List ℕ → Bool
mismatched f g = same (key_of f) (key_of g) && any (λ (e : Key). not (any (same e) (ring g))) (ring f)

-- two faces are, among all faces of hexes and all quads (rule 7.7)
unfoldable pub mismatched_face : Topology → Bool
mismatched_face t = let fs = met t 2 in any (λ (f : List ℕ). any (mismatched f) fs) fs

-- ---- 8: isolated vertex (loose vertex)

-- a vertex is a corner of no cell (rule 7.8)
unfoldable pub isolated_vertex : Topology → Bool
isolated_vertex t = any (λ (v : ℕ). not (any (λ (κ : Kind). any (has v) (cells_of t κ)) kinds)) (up_from 0 t.vertex_count)

-- ---- 9: too many rounds

-- more than 8 (rule 7.9)
abbrev pub too_many_rounds : ℕ → Bool
too_many_rounds rounds = ltb 8 rounds

-- ---- 10: result too large (too large)

-- the finished counts are out of range (rule 7.10)
unfoldable pub too_large : ℕ → Topology → Bool
too_large rounds t = out_of_range (finished_counts rounds t)

-- ---- 11: short buffer. Each entry point says which buffers it is lent (rule 7.11).

-- ---- 12: retired (trade: strayed). No entry point gives it, and the number is never used again; refining promises `range_kept` (rule 7.12).

-- ---- checks that several entry points make

-- 1 to 4, which writing makes too, and then what the later checks say (rule 9.6)
unfoldable pub table_checks : Mesh → ℕ → ℕ
table_checks m later =
    check (partial_entry m) 1
    (check (count_out_of_range m) 2
    (check (coordinate_out_of_range m) 3
    (check (corner_out_of_range (topology m)) 4 later)))

-- 1 to 8, and then what the later checks say (rules 9.1, 9.11 and 9.13)
unfoldable pub mesh_checks : Mesh → ℕ → ℕ
mesh_checks m later =
    let t = topology m in
    table_checks m
    (check (repeated_corner t) 5
    (check (duplicate_cell t) 6
    (check (mismatched_face t) 7
    (check (isolated_vertex t) 8 later))))
