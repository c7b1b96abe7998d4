-- Rows of the table of samples: the small functions that the rules are written with, the parts of a cell and of a mesh, one division.
use Rattle.std.specs.Prelude.{true, false, List, [], ◌∷◌, ◌++◌, map, ℕ, suc, length, replicate, pos, negsuc, ltb, eqb}
use Rattle.rules.specs.Lists.{any, keep, repeats, concat, entries, cut, overwritten, concat_map, up_from, has, key_of, same, index_of, meet, distinct}
use Rattle.rules.specs.Mesh.{mesh, Kind, hex, quad, segment, point, kinds, dimension, corners, cells_of, topology, mesh_of, hex_edges, hex_faces, quad_edges, by_dimension, places, cell_parts, first_holding, smallest, smallest_table, place_of}
use Rattle.rules.specs.Split.{corners_at, met, parts, split_by, split}
use Rattle.rules.specs.Means.{floor_div, floor_mod, mean_of, coordinate, rounded, remainder}
use Rattle.rules.specs.Averaging.{means, axis, averaged}
use Rattle.rules.specs.Counts.{sizes, next_sizes, sizes_after, counts_of, counts_in, finished_counts, no_counts}
use Rattle.rules.specs.SampleMeshes.{wire, bar, cube, sides, tent, mixed}
use Rattle.rules.specs.SampleClaims.{numbers, lists, wholes, truths, tables, five, seven, spelled_out, flat, Row, fact}

unfoldable pub part_rows : List Row
part_rows =
    -- lists
    fact (truths (map (any (eqb 3)) ([] ∷ (1 ∷ 3 ∷ []) ∷ (3 ∷ 1 ∷ []) ∷ (1 ∷ 2 ∷ []) ∷ [])) (false ∷ true ∷ true ∷ false ∷ []))
    ∷ fact (lists (map (keep (ltb 2)) ([] ∷ (3 ∷ 1 ∷ 4 ∷ 2 ∷ []) ∷ [])) ([] ∷ (3 ∷ 4 ∷ []) ∷ []))
    ∷ fact (truths (map (repeats eqb) ([] ∷ (1 ∷ []) ∷ (1 ∷ 2 ∷ []) ∷ (1 ∷ 1 ∷ []) ∷ (1 ∷ 2 ∷ 1 ∷ []) ∷ (2 ∷ 1 ∷ 1 ∷ []) ∷ [])) (false ∷ false ∷ false ∷ true ∷ true ∷ true ∷ []))
    ∷ fact (truths (repeats ltb (1 ∷ 2 ∷ []) ∷ repeats ltb (2 ∷ 1 ∷ []) ∷ []) (true ∷ false ∷ []))
    ∷ fact (numbers (concat ((1 ∷ []) ∷ [] ∷ (2 ∷ 3 ∷ []) ∷ [])) (1 ∷ 2 ∷ 3 ∷ []))
    ∷ fact (numbers (concat_map (λ (n : ℕ). n ∷ suc n ∷ []) (4 ∷ 7 ∷ [])) (4 ∷ 5 ∷ 7 ∷ 8 ∷ []))
    ∷ fact (lists (entries 2 2 (1 ∷ 2 ∷ 3 ∷ 4 ∷ 5 ∷ 6 ∷ [])) ((1 ∷ 2 ∷ []) ∷ (3 ∷ 4 ∷ []) ∷ []))
    ∷ fact (lists (cut 2 (1 ∷ 2 ∷ 3 ∷ 4 ∷ 5 ∷ [])) ((1 ∷ 2 ∷ []) ∷ (3 ∷ 4 ∷ []) ∷ []))
    ∷ fact (lists (overwritten (7 ∷ 8 ∷ 9 ∷ []) (1 ∷ 2 ∷ []) ∷ overwritten (7 ∷ []) (1 ∷ 2 ∷ []) ∷ overwritten (7 ∷ []) [] ∷ []) ((1 ∷ 2 ∷ 9 ∷ []) ∷ (1 ∷ 2 ∷ []) ∷ (7 ∷ []) ∷ []))
    ∷ fact (lists (up_from 3 0 ∷ up_from 3 2 ∷ []) ([] ∷ (3 ∷ 4 ∷ []) ∷ []))
    ∷ fact (truths (has 3 [] ∷ has 3 (1 ∷ 3 ∷ []) ∷ has 3 (1 ∷ 2 ∷ []) ∷ []) (false ∷ true ∷ false ∷ []))
    -- sets of corners
    ∷ fact (lists (map key_of ([] ∷ (3 ∷ 1 ∷ 2 ∷ []) ∷ (1 ∷ 2 ∷ 3 ∷ []) ∷ (5 ∷ 5 ∷ 1 ∷ []) ∷ [])) ([] ∷ (1 ∷ 2 ∷ 3 ∷ []) ∷ (1 ∷ 2 ∷ 3 ∷ []) ∷ (1 ∷ 5 ∷ 5 ∷ []) ∷ []))
    ∷ fact (truths (same [] [] ∷ same [] (1 ∷ []) ∷ same (1 ∷ []) [] ∷ same (1 ∷ 2 ∷ []) (1 ∷ 2 ∷ []) ∷ same (1 ∷ 2 ∷ []) (1 ∷ 3 ∷ []) ∷ same (1 ∷ 2 ∷ []) (0 ∷ 2 ∷ []) ∷ []) (true ∷ false ∷ false ∷ true ∷ false ∷ false ∷ []))
    ∷ fact (numbers (map (λ (k : List ℕ). index_of k ((1 ∷ []) ∷ (2 ∷ []) ∷ (2 ∷ []) ∷ [])) ((2 ∷ []) ∷ (1 ∷ []) ∷ (4 ∷ []) ∷ [])) (1 ∷ 0 ∷ 3 ∷ []))
    ∷ fact (lists (meet ((1 ∷ []) ∷ (2 ∷ []) ∷ (3 ∷ []) ∷ []) (2 ∷ [])) ((1 ∷ []) ∷ (2 ∷ []) ∷ (3 ∷ []) ∷ []))
    ∷ fact (lists (meet ((2 ∷ []) ∷ (3 ∷ []) ∷ []) (1 ∷ [])) ((2 ∷ []) ∷ (3 ∷ []) ∷ (1 ∷ []) ∷ []))
    ∷ fact (lists (distinct ((2 ∷ []) ∷ (1 ∷ 3 ∷ []) ∷ (2 ∷ []) ∷ (1 ∷ []) ∷ (1 ∷ 3 ∷ []) ∷ [])) ((2 ∷ []) ∷ (1 ∷ 3 ∷ []) ∷ (1 ∷ []) ∷ []))
    -- the kinds: in the order walked, dimensions, corners (rule 1.5)
    ∷ fact (numbers (map dimension kinds ++ map corners kinds) (3 ∷ 2 ∷ 1 ∷ 0 ∷ 8 ∷ 4 ∷ 2 ∷ 1 ∷ []))
    ∷ fact (numbers (map (λ (κ : Kind). length (by_dimension κ)) kinds) (4 ∷ 3 ∷ 2 ∷ 1 ∷ []))
    ∷ fact (lists (hex_edges ++ (hex_faces ++ quad_edges)) ((0 ∷ 1 ∷ []) ∷ (1 ∷ 2 ∷ []) ∷ (2 ∷ 3 ∷ []) ∷ (3 ∷ 0 ∷ []) ∷ (4 ∷ 5 ∷ []) ∷ (5 ∷ 6 ∷ []) ∷ (6 ∷ 7 ∷ []) ∷ (7 ∷ 4 ∷ []) ∷ (0 ∷ 4 ∷ []) ∷ (1 ∷ 5 ∷ []) ∷ (2 ∷ 6 ∷ []) ∷ (3 ∷ 7 ∷ []) ∷ (0 ∷ 1 ∷ 2 ∷ 3 ∷ []) ∷ (4 ∷ 5 ∷ 6 ∷ 7 ∷ []) ∷ (0 ∷ 1 ∷ 5 ∷ 4 ∷ []) ∷ (1 ∷ 2 ∷ 6 ∷ 5 ∷ []) ∷ (2 ∷ 3 ∷ 7 ∷ 6 ∷ []) ∷ (3 ∷ 0 ∷ 4 ∷ 7 ∷ []) ∷ (0 ∷ 1 ∷ []) ∷ (1 ∷ 2 ∷ []) ∷ (2 ∷ 3 ∷ []) ∷ (3 ∷ 0 ∷ []) ∷ []))
    ∷ fact (lists (cell_parts hex) ((0 ∷ []) ∷ (1 ∷ []) ∷ (2 ∷ []) ∷ (3 ∷ []) ∷ (4 ∷ []) ∷ (5 ∷ []) ∷ (6 ∷ []) ∷ (7 ∷ []) ∷ (0 ∷ 1 ∷ []) ∷ (1 ∷ 2 ∷ []) ∷ (2 ∷ 3 ∷ []) ∷ (3 ∷ 0 ∷ []) ∷ (4 ∷ 5 ∷ []) ∷ (5 ∷ 6 ∷ []) ∷ (6 ∷ 7 ∷ []) ∷ (7 ∷ 4 ∷ []) ∷ (0 ∷ 4 ∷ []) ∷ (1 ∷ 5 ∷ []) ∷ (2 ∷ 6 ∷ []) ∷ (3 ∷ 7 ∷ []) ∷ (0 ∷ 1 ∷ 2 ∷ 3 ∷ []) ∷ (4 ∷ 5 ∷ 6 ∷ 7 ∷ []) ∷ (0 ∷ 1 ∷ 5 ∷ 4 ∷ []) ∷ (1 ∷ 2 ∷ 6 ∷ 5 ∷ []) ∷ (2 ∷ 3 ∷ 7 ∷ 6 ∷ []) ∷ (3 ∷ 0 ∷ 4 ∷ 7 ∷ []) ∷ (0 ∷ 1 ∷ 2 ∷ 3 ∷ 4 ∷ 5 ∷ 6 ∷ 7 ∷ []) ∷ []))
    ∷ fact (lists (cell_parts quad) ((0 ∷ []) ∷ (1 ∷ []) ∷ (2 ∷ []) ∷ (3 ∷ []) ∷ (0 ∷ 1 ∷ []) ∷ (1 ∷ 2 ∷ []) ∷ (2 ∷ 3 ∷ []) ∷ (3 ∷ 0 ∷ []) ∷ (0 ∷ 1 ∷ 2 ∷ 3 ∷ []) ∷ []))
    ∷ fact (lists (cell_parts segment ++ cell_parts point) ((0 ∷ []) ∷ (1 ∷ []) ∷ (0 ∷ 1 ∷ []) ∷ (0 ∷ []) ∷ []))
    ∷ fact (numbers (map (λ (κ : Kind). length (places κ 1)) kinds ++ (map (λ (κ : Kind). length (places κ 2)) kinds ++ map (λ (κ : Kind). length (places κ 3)) kinds)) (12 ∷ 4 ∷ 1 ∷ 0 ∷ 6 ∷ 1 ∷ 0 ∷ 0 ∷ 1 ∷ 0 ∷ 0 ∷ 0 ∷ []))
    -- the smallest part for two corners (rules 2.6 to 2.8)
    ∷ fact (lists (smallest_table hex) ((0 ∷ 8 ∷ 20 ∷ 11 ∷ 16 ∷ 22 ∷ 26 ∷ 25 ∷ []) ∷ (8 ∷ 1 ∷ 9 ∷ 20 ∷ 22 ∷ 17 ∷ 23 ∷ 26 ∷ []) ∷ (20 ∷ 9 ∷ 2 ∷ 10 ∷ 26 ∷ 23 ∷ 18 ∷ 24 ∷ []) ∷ (11 ∷ 20 ∷ 10 ∷ 3 ∷ 25 ∷ 26 ∷ 24 ∷ 19 ∷ []) ∷ (16 ∷ 22 ∷ 26 ∷ 25 ∷ 4 ∷ 12 ∷ 21 ∷ 15 ∷ []) ∷ (22 ∷ 17 ∷ 23 ∷ 26 ∷ 12 ∷ 5 ∷ 13 ∷ 21 ∷ []) ∷ (26 ∷ 23 ∷ 18 ∷ 24 ∷ 21 ∷ 13 ∷ 6 ∷ 14 ∷ []) ∷ (25 ∷ 26 ∷ 24 ∷ 19 ∷ 15 ∷ 21 ∷ 14 ∷ 7 ∷ []) ∷ []))
    ∷ fact (lists (smallest_table quad ++ (smallest_table segment ++ smallest_table point)) ((0 ∷ 4 ∷ 8 ∷ 7 ∷ []) ∷ (4 ∷ 1 ∷ 5 ∷ 8 ∷ []) ∷ (8 ∷ 5 ∷ 2 ∷ 6 ∷ []) ∷ (7 ∷ 8 ∷ 6 ∷ 3 ∷ []) ∷ (0 ∷ 2 ∷ []) ∷ (2 ∷ 1 ∷ []) ∷ (0 ∷ []) ∷ []))
    ∷ fact (lists (smallest hex 0 0 ∷ smallest hex 0 1 ∷ smallest hex 2 7 ∷ smallest hex 1 7 ∷ smallest quad 3 0 ∷ smallest quad 1 3 ∷ smallest segment 1 0 ∷ smallest point 0 0 ∷ []) ((0 ∷ []) ∷ (0 ∷ 1 ∷ []) ∷ (2 ∷ 3 ∷ 7 ∷ 6 ∷ []) ∷ (0 ∷ 1 ∷ 2 ∷ 3 ∷ 4 ∷ 5 ∷ 6 ∷ 7 ∷ []) ∷ (3 ∷ 0 ∷ []) ∷ (0 ∷ 1 ∷ 2 ∷ 3 ∷ []) ∷ (0 ∷ 1 ∷ []) ∷ (0 ∷ []) ∷ []))
    ∷ fact (numbers (first_holding 0 1 [] ∷ first_holding 0 5 (cell_parts quad) ∷ smallest segment 0 5) (0 ∷ 9 ∷ []))
    ∷ fact (numbers (place_of hex_edges 3 0 ∷ place_of hex_edges 3 1 ∷ place_of hex_faces 5 2 ∷ place_of hex_faces 6 0 ∷ []) (3 ∷ 0 ∷ 4 ∷ 0 ∷ []))
    -- tables and cells
    ∷ fact (lists (concat_map (cells_of (topology mixed)) kinds) ((0 ∷ 1 ∷ 2 ∷ 3 ∷ 4 ∷ 5 ∷ 6 ∷ 7 ∷ []) ∷ (4 ∷ 5 ∷ 6 ∷ 7 ∷ []) ∷ (6 ∷ 8 ∷ []) ∷ (8 ∷ 9 ∷ []) ∷ (9 ∷ []) ∷ []))
    ∷ fact (lists (flat (topology (mesh (replicate 7 (pos 0)) (up_from 0 9) (up_from 0 5) (up_from 0 3) (up_from 0 2)))) ((2 ∷ []) ∷ (0 ∷ 1 ∷ 2 ∷ 3 ∷ 4 ∷ 5 ∷ 6 ∷ 7 ∷ []) ∷ (0 ∷ 1 ∷ 2 ∷ 3 ∷ []) ∷ (0 ∷ 1 ∷ []) ∷ (0 ∷ []) ∷ (1 ∷ []) ∷ []))
    ∷ fact (tables (mesh_of (pos 3 ∷ []) (topology mixed)) (mesh (pos 3 ∷ []) mixed.hexes mixed.quads mixed.segments mixed.points))
    -- the parts of a mesh, in the order first met: a quad, two segments and a point, of 5 vertices (rules 2.2 to 2.4)
    ∷ fact (lists (met tent 1 ++ met tent 2) ((0 ∷ 1 ∷ []) ∷ (1 ∷ 2 ∷ []) ∷ (2 ∷ 3 ∷ []) ∷ (3 ∷ 0 ∷ []) ∷ (1 ∷ 0 ∷ []) ∷ (3 ∷ 4 ∷ []) ∷ (0 ∷ 1 ∷ 2 ∷ 3 ∷ []) ∷ []))
    ∷ fact (lists (met tent 0) ((0 ∷ []) ∷ (1 ∷ []) ∷ (2 ∷ []) ∷ (3 ∷ []) ∷ (1 ∷ []) ∷ (0 ∷ []) ∷ (3 ∷ []) ∷ (4 ∷ []) ∷ (2 ∷ []) ∷ []))
    ∷ fact (lists (parts tent) ((0 ∷ []) ∷ (1 ∷ []) ∷ (2 ∷ []) ∷ (3 ∷ []) ∷ (4 ∷ []) ∷ (0 ∷ 1 ∷ []) ∷ (1 ∷ 2 ∷ []) ∷ (2 ∷ 3 ∷ []) ∷ (0 ∷ 3 ∷ []) ∷ (3 ∷ 4 ∷ []) ∷ (0 ∷ 1 ∷ 2 ∷ 3 ∷ []) ∷ []))
    ∷ fact (lists (corners_at (5 ∷ 6 ∷ []) (1 ∷ 2 ∷ []) ∷ []) ((6 ∷ 0 ∷ []) ∷ []))
    ∷ fact (numbers (length (parts (topology (mesh (replicate 24 (pos 0)) (up_from 0 8 ++ up_from 0 8) [] [] []))) ∷ []) (27 ∷ []))
    ∷ fact (lists (parts (topology (cube (7 ∷ 6 ∷ 5 ∷ 4 ∷ [])))) ((0 ∷ []) ∷ (1 ∷ []) ∷ (2 ∷ []) ∷ (3 ∷ []) ∷ (4 ∷ []) ∷ (5 ∷ []) ∷ (6 ∷ []) ∷ (7 ∷ []) ∷ (0 ∷ 1 ∷ []) ∷ (1 ∷ 2 ∷ []) ∷ (2 ∷ 3 ∷ []) ∷ (0 ∷ 3 ∷ []) ∷ (4 ∷ 5 ∷ []) ∷ (5 ∷ 6 ∷ []) ∷ (6 ∷ 7 ∷ []) ∷ (4 ∷ 7 ∷ []) ∷ (0 ∷ 4 ∷ []) ∷ (1 ∷ 5 ∷ []) ∷ (2 ∷ 6 ∷ []) ∷ (3 ∷ 7 ∷ []) ∷ (0 ∷ 1 ∷ 2 ∷ 3 ∷ []) ∷ (4 ∷ 5 ∷ 6 ∷ 7 ∷ []) ∷ (0 ∷ 1 ∷ 4 ∷ 5 ∷ []) ∷ (1 ∷ 2 ∷ 5 ∷ 6 ∷ []) ∷ (2 ∷ 3 ∷ 6 ∷ 7 ∷ []) ∷ (0 ∷ 3 ∷ 4 ∷ 7 ∷ []) ∷ (0 ∷ 1 ∷ 2 ∷ 3 ∷ 4 ∷ 5 ∷ 6 ∷ 7 ∷ []) ∷ []))
    ∷ fact (lists (flat (split tent)) ((11 ∷ []) ∷ (0 ∷ 5 ∷ 10 ∷ 8 ∷ []) ∷ (5 ∷ 1 ∷ 6 ∷ 10 ∷ []) ∷ (10 ∷ 6 ∷ 2 ∷ 7 ∷ []) ∷ (8 ∷ 10 ∷ 7 ∷ 3 ∷ []) ∷ (1 ∷ 5 ∷ []) ∷ (5 ∷ 0 ∷ []) ∷ (3 ∷ 9 ∷ []) ∷ (9 ∷ 4 ∷ []) ∷ (2 ∷ []) ∷ []))
    ∷ fact (lists (flat (split_by [] (topology mixed))) ((0 ∷ []) ∷ (replicate 8 (replicate 8 0) ++ (replicate 4 (replicate 4 0) ++ (replicate 4 (0 ∷ 0 ∷ []) ++ ((0 ∷ []) ∷ []))))))
    -- one division, rounded toward minus infinity (rule 3.6)
    ∷ fact (wholes (floor_div (pos 7) 2 ∷ floor_div (pos 8) 2 ∷ floor_div (pos 1) 2 ∷ floor_div (negsuc 0) 2 ∷ floor_div (negsuc 6) 2 ∷ floor_div (negsuc 7) 2 ∷ []) (pos 3 ∷ pos 4 ∷ pos 0 ∷ negsuc 0 ∷ negsuc 3 ∷ negsuc 3 ∷ []))
    ∷ fact (numbers (floor_mod (pos 7) 4 ∷ floor_mod (pos 8) 4 ∷ floor_mod (negsuc 0) 4 ∷ floor_mod (negsuc 6) 4 ∷ floor_mod (negsuc 7) 4 ∷ []) (3 ∷ 0 ∷ 3 ∷ 1 ∷ 0 ∷ []))
    -- the means of a round, each as its divisor and its draws: of a segment; of its middle; past the last vertex (rules 3.4, 3.5)
    ∷ fact (lists (map spelled_out (means (topology bar))) ((16 ∷ 0 ∷ 8 ∷ 0 ∷ 4 ∷ 1 ∷ 4 ∷ []) ∷ (16 ∷ 0 ∷ 4 ∷ 1 ∷ 4 ∷ 1 ∷ 8 ∷ []) ∷ (32 ∷ 0 ∷ 8 ∷ 0 ∷ 4 ∷ 1 ∷ 4 ∷ 0 ∷ 4 ∷ 1 ∷ 4 ∷ 1 ∷ 8 ∷ []) ∷ []))
    ∷ fact (lists (map spelled_out (means (topology (wire (pos 8 ∷ []) (0 ∷ 1 ∷ []) [])))) ((16 ∷ 0 ∷ 8 ∷ 0 ∷ 4 ∷ 1 ∷ 4 ∷ []) ∷ (32 ∷ 0 ∷ 8 ∷ 0 ∷ 4 ∷ 1 ∷ 4 ∷ 0 ∷ 4 ∷ 1 ∷ 4 ∷ []) ∷ []))
    ∷ fact (lists (spelled_out (mean_of (means (topology bar)) 2) ∷ spelled_out (mean_of (means (topology bar)) 3) ∷ []) ((32 ∷ 0 ∷ 8 ∷ 0 ∷ 4 ∷ 1 ∷ 4 ∷ 0 ∷ 4 ∷ 1 ∷ 4 ∷ 1 ∷ 8 ∷ []) ∷ (1 ∷ []) ∷ []))
    ∷ fact (lists (map spelled_out (mean_of (means tent) 2 ∷ mean_of (means tent) 6 ∷ [])) ((8 ∷ 2 ∷ 8 ∷ []) ∷ (64 ∷ 0 ∷ 4 ∷ 1 ∷ 4 ∷ 1 ∷ 8 ∷ 1 ∷ 4 ∷ 2 ∷ 4 ∷ 0 ∷ 2 ∷ 1 ∷ 2 ∷ 2 ∷ 2 ∷ 3 ∷ 2 ∷ 0 ∷ 2 ∷ 1 ∷ 2 ∷ 2 ∷ 2 ∷ 3 ∷ 2 ∷ 1 ∷ 4 ∷ 2 ∷ 4 ∷ 2 ∷ 8 ∷ 2 ∷ 4 ∷ 3 ∷ 4 ∷ []) ∷ []))
    ∷ fact (wholes (coordinate (pos 4 ∷ pos 6 ∷ []) 1 ∷ coordinate (pos 4 ∷ []) 1 ∷ []) (pos 6 ∷ pos 0 ∷ []))
    ∷ fact (wholes (rounded (pos 0 ∷ negsuc 6 ∷ []) (mean_of (means (topology bar)) 0) ∷ []) (negsuc 1 ∷ []))
    ∷ fact (numbers (remainder (pos 0 ∷ negsuc 6 ∷ []) (mean_of (means (topology bar)) 0) ∷ []) (4 ∷ []))
    ∷ fact (wholes (axis 0 (pos 1 ∷ pos 2 ∷ pos 3 ∷ pos 4 ∷ pos 5 ∷ pos 6 ∷ pos 7 ∷ []) ++ (axis 1 (pos 1 ∷ pos 2 ∷ pos 3 ∷ pos 4 ∷ pos 5 ∷ pos 6 ∷ pos 7 ∷ []) ++ axis 2 (pos 1 ∷ pos 2 ∷ pos 3 ∷ pos 4 ∷ pos 5 ∷ pos 6 ∷ pos 7 ∷ []))) (pos 1 ∷ pos 4 ∷ pos 2 ∷ pos 5 ∷ pos 3 ∷ pos 6 ∷ []))
    ∷ fact (wholes (axis 3 (pos 1 ∷ pos 2 ∷ pos 3 ∷ [])) (pos 0 ∷ []))
    ∷ fact (wholes (averaged (means (topology bar)) (pos 0 ∷ pos 1 ∷ pos 2 ∷ pos 7 ∷ pos 9 ∷ negsuc 3 ∷ [])) (pos 1 ∷ pos 3 ∷ pos 0 ∷ pos 5 ∷ pos 7 ∷ negsuc 2 ∷ pos 3 ∷ pos 5 ∷ negsuc 0 ∷ []))
    -- the counts (rules 5.1 to 5.4)
    ∷ fact (numbers (seven (sizes (topology mixed))) (10 ∷ 14 ∷ 6 ∷ 1 ∷ 1 ∷ 2 ∷ 1 ∷ []))
    ∷ fact (numbers (seven (sizes (topology (wire (pos 5 ∷ []) [] (0 ∷ [])))) ++ seven (sizes (topology (cube sides)))) (1 ∷ 0 ∷ 0 ∷ 0 ∷ 0 ∷ 0 ∷ 1 ∷ 8 ∷ 12 ∷ 6 ∷ 1 ∷ 6 ∷ 0 ∷ 0 ∷ []))
    ∷ fact (numbers (seven (next_sizes (record { vertices = 1; edges = 20; faces = 300; hexes = 4_000; quads = 5; segments = 6; points = 7 }))) (4_321 ∷ 25_240 ∷ 49_200 ∷ 32_000 ∷ 20 ∷ 12 ∷ 7 ∷ []))
    ∷ fact (numbers (seven (sizes_after 0 (sizes (topology bar))) ++ seven (sizes_after 2 (sizes (topology bar)))) (2 ∷ 1 ∷ 0 ∷ 0 ∷ 0 ∷ 1 ∷ 0 ∷ 5 ∷ 4 ∷ 0 ∷ 0 ∷ 0 ∷ 4 ∷ 0 ∷ []))
    ∷ fact (numbers (five (counts_of (mesh (replicate 14 (pos 0)) (replicate 31 0) (replicate 11 0) (replicate 5 0) (replicate 6 0)))) (4 ∷ 3 ∷ 2 ∷ 2 ∷ 6 ∷ []))
    ∷ fact (numbers (five (counts_in (record { vertices = 1; edges = 20; faces = 300; hexes = 4_000; quads = 5; segments = 6; points = 7 }))) (1 ∷ 4_000 ∷ 5 ∷ 6 ∷ 7 ∷ []))
    ∷ fact (numbers (five no_counts ++ five (finished_counts 1 (topology mixed))) (0 ∷ 0 ∷ 0 ∷ 0 ∷ 0 ∷ 31 ∷ 8 ∷ 4 ∷ 4 ∷ 1 ∷ []))
    ∷ []
