-- Rows of the table of samples: each refusal on both sides of its limit, and each order of two neighbouring checks.
use Rattle.std.specs.Prelude.{true, false, List, [], ◌∷◌, ◌++◌, map, ℕ, replicate, pos, negsuc}
use Rattle.rules.specs.Lists.{up_from}
use Rattle.rules.specs.Mesh.{mesh, topology}
use Rattle.rules.specs.Counts.{out_of_range, fewer}
use Rattle.rules.specs.Refusals.{check, partial_entry, count_out_of_range, outside, corner_out_of_range, repeated_corner, duplicate_cell, ring, mismatched, mismatched_face, isolated_vertex, too_many_rounds, too_large, table_checks, mesh_checks}
use Rattle.rules.specs.EntryPoints.{Lent, short_for_refining}
use Rattle.rules.specs.SampleMeshes.{tally, lent, line, wire, bar, square, cube, sides, hub, span, low_hub, wide_cube, mixed}
use Rattle.rules.specs.SampleClaims.{refused, truths, numbers, lists, Row, row, fact}

unfoldable pub refusal_rows : List Row
refusal_rows =
    -- a check that fails gives its number, and else the later ones speak
    fact (numbers (check true 7 9 ∷ check false 7 9 ∷ []) (7 ∷ 9 ∷ []))
    -- 1, table by table; a table of points has no partial entry
    ∷ fact (truths
    (map partial_entry
    (mesh [] [] [] [] [] ∷ mesh (replicate 3 (pos 0)) (replicate 8 0) (replicate 4 0) (replicate 2 0) (0 ∷ []) ∷ mesh (replicate 4 (pos 0)) [] [] [] []
    ∷ mesh [] (replicate 9 0) [] [] [] ∷ mesh [] [] (replicate 6 0) [] [] ∷ mesh [] [] [] (replicate 3 0) [] ∷ mesh [] (replicate 4 0) [] [] []
    ∷ mesh [] [] (replicate 2 0) [] [] ∷ mesh (replicate 8 (pos 0)) [] [] [] [] ∷ []))
    (false ∷ false ∷ true ∷ true ∷ true ∷ true ∷ true ∷ true ∷ true ∷ []))
    ∷ fact (truths
    (map (λ (n : ℕ). partial_entry (mesh [] (replicate n 0) [] [] [])) (up_from 0 9) ++ (map (λ (n : ℕ). partial_entry (mesh [] [] (replicate n 0) [] [])) (up_from 0 9)
    ++ (map (λ (n : ℕ). partial_entry (mesh [] [] [] (replicate n 0) [])) (up_from 0 9) ++ (map (λ (n : ℕ). partial_entry (mesh (replicate n (pos 0)) [] [] [] [])) (up_from 0 9)
    ++ map (λ (n : ℕ). partial_entry (mesh [] [] [] [] (replicate n 0))) (up_from 0 9)))))
    (false ∷ true ∷ true ∷ true ∷ true ∷ true ∷ true ∷ true ∷ false ∷ false ∷ true ∷ true ∷ true ∷ false ∷ true ∷ true ∷ true ∷ false ∷ false ∷ true ∷ false ∷ true ∷ false ∷ true ∷ false ∷ true ∷ false ∷ false ∷ true ∷ true ∷ false ∷ true ∷ true ∷ false ∷ true ∷ true ∷ false ∷ false ∷ false ∷ false ∷ false ∷ false ∷ false ∷ false ∷ false ∷ []))
    ∷ row (mesh (pos 0 ∷ pos 0 ∷ pos 0 ∷ pos 0 ∷ []) [] [] [] (0 ∷ [])) 1 (refused 1)
    -- 2, on counts: each limit on both sides (rule 5.5)
    ∷ fact (truths
    (map out_of_range
    (tally 0 0 0 0 0 ∷ tally 0 1 1 1 1 ∷ tally 1 0 0 0 0 ∷ tally 1_000_000 250_000 250_000 250_000 250_000 ∷ tally 1_000_001 0 0 0 0
    ∷ tally 1 250_001 0 0 0 ∷ tally 1 0 250_001 0 0 ∷ tally 1 0 0 250_001 0 ∷ tally 1 0 0 0 250_001 ∷ []))
    (true ∷ true ∷ false ∷ false ∷ true ∷ true ∷ true ∷ true ∷ true ∷ []))
    ∷ fact (truths (map out_of_range (tally 2_000_000 0 0 0 0 ∷ tally 1 500_000 0 0 0 ∷ tally 1 0 500_000 0 0 ∷ tally 1 0 0 500_000 0 ∷ tally 1 0 0 0 500_000 ∷ tally 500_000 1 1 1 1 ∷ [])) (true ∷ true ∷ true ∷ true ∷ true ∷ false ∷ []))
    ∷ fact (truths (map count_out_of_range (mesh [] [] [] [] (0 ∷ []) ∷ mesh (replicate 2 (pos 0)) [] [] [] [] ∷ bar ∷ [])) (true ∷ true ∷ false ∷ []))
    ∷ row (wire [] [] (0 ∷ [])) 1 (refused 2)
    -- 3, on both sides of both ends, on each axis
    ∷ fact (truths (map outside (negsuc 536_870_912 ∷ negsuc 536_870_911 ∷ pos 0 ∷ pos 536_870_911 ∷ pos 536_870_912 ∷ [])) (true ∷ false ∷ false ∷ false ∷ true ∷ []))
    ∷ row (wire (pos 536870911 ∷ []) [] (0 ∷ [])) 1 (refused 0)
    ∷ row (wire (pos 536870912 ∷ []) [] (0 ∷ [])) 1 (refused 3)
    ∷ row (wire (negsuc 536870911 ∷ []) [] (0 ∷ [])) 1 (refused 0)
    ∷ row (wire (negsuc 536870912 ∷ []) [] (0 ∷ [])) 1 (refused 3)
    ∷ row (mesh (pos 0 ∷ pos 0 ∷ pos 536870912 ∷ []) [] [] [] (0 ∷ [])) 1 (refused 3)
    ∷ row (mesh (line (pos 0 ∷ []) ++ (pos 0 ∷ pos 0 ∷ pos 536870912 ∷ [])) [] [] (0 ∷ 1 ∷ []) []) 1 (refused 3)
    ∷ row (wire (pos 0 ∷ pos 536870912 ∷ []) (0 ∷ 1 ∷ []) []) 1 (refused 3)
    -- 4, of each kind: the last vertex passes
    ∷ fact (truths
    (map corner_out_of_range
    (map topology
    (cube [] ∷ mesh (cube []).vertices (1 ∷ 2 ∷ 3 ∷ 4 ∷ 5 ∷ 6 ∷ 7 ∷ 8 ∷ []) [] [] [] ∷ cube (5 ∷ 6 ∷ 7 ∷ 8 ∷ []) ∷ wire (pos 0 ∷ pos 8 ∷ []) (1 ∷ 2 ∷ []) []
    ∷ wire (pos 0 ∷ pos 8 ∷ []) [] (1 ∷ 2 ∷ []) ∷ wire (pos 0 ∷ pos 8 ∷ []) (0 ∷ 1 ∷ []) (1 ∷ []) ∷ [])))
    (false ∷ true ∷ true ∷ true ∷ true ∷ false ∷ []))
    ∷ fact (truths (map corner_out_of_range (map topology (wire (pos 0 ∷ []) [] (5 ∷ []) ∷ wire (pos 0 ∷ pos 8 ∷ []) (7 ∷ 0 ∷ []) [] ∷ []))) (true ∷ true ∷ []))
    ∷ row (cube []) 1 (refused 0)
    ∷ row (cube (5 ∷ 6 ∷ 7 ∷ 8 ∷ [])) 1 (refused 4)
    -- 5, of each kind, neighbours or not
    ∷ fact (truths
    (map repeated_corner
    (map topology
    (mixed ∷ mesh [] (0 ∷ 1 ∷ 2 ∷ 3 ∷ 4 ∷ 5 ∷ 6 ∷ 0 ∷ []) [] [] [] ∷ mesh [] [] (0 ∷ 1 ∷ 0 ∷ 2 ∷ []) [] [] ∷ mesh [] [] [] (0 ∷ 1 ∷ 3 ∷ 3 ∷ []) [] ∷ mesh [] [] [] [] (0 ∷ 0 ∷ []) ∷ [])))
    (false ∷ true ∷ true ∷ true ∷ false ∷ []))
    ∷ fact (truths (repeated_corner (topology (mesh [] [] [] (0 ∷ 1 ∷ 1 ∷ 2 ∷ 3 ∷ 3 ∷ []) [])) ∷ corner_out_of_range (topology (wire (pos 0 ∷ pos 1 ∷ pos 2 ∷ []) (0 ∷ 1 ∷ 1 ∷ 2 ∷ 2 ∷ 3 ∷ []) [])) ∷ []) (true ∷ true ∷ []))
    ∷ row (wire (pos 0 ∷ pos 8 ∷ []) (1 ∷ 1 ∷ []) []) 1 (refused 5)
    -- 6, of each kind, whatever the order of the corners; the kinds apart
    ∷ fact (truths
    (map duplicate_cell
    (map topology
    (cube sides ∷ mesh [] [] (0 ∷ 1 ∷ 2 ∷ 3 ∷ 5 ∷ 6 ∷ 7 ∷ 8 ∷ 2 ∷ 1 ∷ 0 ∷ 3 ∷ []) [] [] ∷ mesh [] [] [] (0 ∷ 1 ∷ 2 ∷ 3 ∷ 1 ∷ 0 ∷ []) [] ∷ mesh [] [] [] [] (4 ∷ 5 ∷ 4 ∷ [])
    ∷ mesh [] [] [] (0 ∷ 1 ∷ 1 ∷ 2 ∷ []) (0 ∷ 1 ∷ []) ∷ [])))
    (false ∷ true ∷ true ∷ true ∷ false ∷ []))
    ∷ row (wire (pos 0 ∷ []) [] (0 ∷ 0 ∷ [])) 1 (refused 6)
    ∷ row (mesh (cube []).vertices (up_from 0 8 ++ (4 ∷ 5 ∷ 6 ∷ 7 ∷ 0 ∷ 1 ∷ 2 ∷ 3 ∷ [])) [] [] []) 1 (refused 6)
    -- 7: start and direction do not matter, neighbours do; of two hexes, of a hex and a quad, of two quads
    ∷ fact (lists (ring (4 ∷ 2 ∷ 9 ∷ 7 ∷ [])) ((2 ∷ 4 ∷ []) ∷ (2 ∷ 9 ∷ []) ∷ (7 ∷ 9 ∷ []) ∷ (4 ∷ 7 ∷ []) ∷ []))
    ∷ fact (truths
    (map (mismatched (0 ∷ 1 ∷ 2 ∷ 3 ∷ []))
    ((0 ∷ 1 ∷ 2 ∷ 3 ∷ []) ∷ (2 ∷ 3 ∷ 0 ∷ 1 ∷ []) ∷ (3 ∷ 2 ∷ 1 ∷ 0 ∷ []) ∷ (0 ∷ 2 ∷ 1 ∷ 3 ∷ []) ∷ (0 ∷ 1 ∷ 3 ∷ 2 ∷ []) ∷ (0 ∷ 2 ∷ 1 ∷ 4 ∷ []) ∷ []))
    (false ∷ false ∷ false ∷ true ∷ true ∷ false ∷ []))
    ∷ fact (truths (mismatched (0 ∷ 0 ∷ 1 ∷ 1 ∷ []) (0 ∷ 1 ∷ 0 ∷ 1 ∷ []) ∷ mismatched (0 ∷ 1 ∷ 0 ∷ 1 ∷ []) (0 ∷ 0 ∷ 1 ∷ 1 ∷ []) ∷ []) (true ∷ false ∷ []))
    ∷ fact (truths
    (map mismatched_face
    (map topology
    (cube sides ∷ cube (2 ∷ 1 ∷ 0 ∷ 3 ∷ []) ∷ cube (0 ∷ 2 ∷ 1 ∷ 3 ∷ []) ∷ mesh [] (up_from 0 8 ++ (4 ∷ 6 ∷ 5 ∷ 7 ∷ 8 ∷ 9 ∷ 10 ∷ 11 ∷ [])) [] [] []
    ∷ mesh [] [] (0 ∷ 1 ∷ 2 ∷ 3 ∷ 3 ∷ 1 ∷ 0 ∷ 2 ∷ []) [] [] ∷ hub ∷ [])))
    (false ∷ false ∷ true ∷ true ∷ true ∷ false ∷ []))
    ∷ fact (truths (mismatched_face (topology (mesh [] [] (0 ∷ 1 ∷ 2 ∷ 3 ∷ 4 ∷ 5 ∷ 6 ∷ 7 ∷ 4 ∷ 6 ∷ 5 ∷ 7 ∷ []) [] [])) ∷ []) (true ∷ []))
    ∷ row (cube (0 ∷ 2 ∷ 1 ∷ 3 ∷ [])) 1 (refused 7)
    -- 8: a vertex is held by a cell of any kind; the first and the last count
    ∷ fact (truths
    (map isolated_vertex
    (map topology
    (mixed ∷ cube [] ∷ mesh square [] (0 ∷ 1 ∷ 2 ∷ 3 ∷ []) [] [] ∷ bar ∷ wire (pos 0 ∷ []) [] (0 ∷ []) ∷ wire (pos 0 ∷ []) [] []
    ∷ wire (pos 0 ∷ pos 1 ∷ pos 2 ∷ []) (1 ∷ 2 ∷ []) [] ∷ wire (pos 0 ∷ pos 1 ∷ pos 2 ∷ []) (0 ∷ 1 ∷ []) [] ∷ [])))
    (false ∷ false ∷ false ∷ false ∷ false ∷ true ∷ true ∷ true ∷ []))
    ∷ row (wire (pos 0 ∷ pos 8 ∷ []) [] (0 ∷ [])) 1 (refused 8)
    -- 9
    ∷ fact (truths (map too_many_rounds (0 ∷ 8 ∷ 9 ∷ 255 ∷ [])) (false ∷ false ∷ true ∷ true ∷ []))
    ∷ row (wire (pos 5 ∷ []) [] (0 ∷ [])) 8 (refused 0)
    ∷ row (wire (pos 5 ∷ []) [] (0 ∷ [])) 9 (refused 9)
    -- 10: one cube passes after 5 rounds and not after 6; no vertex does not pass
    ∷ fact (truths (too_large 5 (topology (cube [])) ∷ too_large 6 (topology (cube [])) ∷ too_large 1 (topology (wire [] [] [])) ∷ []) (false ∷ true ∷ true ∷ []))
    ∷ row (cube []) 6 (refused 10)
    -- 11, on counts: each table and each count of numbers on both sides
    ∷ fact (truths
    (map (fewer (tally 5 4 3 2 1))
    (tally 5 4 3 2 1 ∷ tally 0 0 0 0 0 ∷ tally 6 0 0 0 0 ∷ tally 0 5 0 0 0 ∷ tally 0 0 4 0 0 ∷ tally 0 0 0 3 0 ∷ tally 0 0 0 0 2 ∷ []))
    (false ∷ false ∷ true ∷ true ∷ true ∷ true ∷ true ∷ []))
    ∷ fact (truths
    (map (λ (l : Lent). short_for_refining l (tally 5 4 3 2 1))
    (lent (tally 5 4 3 2 1) (tally 5 4 3 2 1) 40 15 ∷ lent (tally 4 4 3 2 1) (tally 5 4 3 2 1) 40 15 ∷ lent (tally 5 4 3 2 1) (tally 5 4 3 2 0) 40 15
    ∷ lent (tally 5 4 3 2 1) (tally 5 4 3 2 1) 39 15 ∷ lent (tally 5 4 3 2 1) (tally 5 4 3 2 1) 40 14 ∷ []))
    (false ∷ true ∷ true ∷ true ∷ true ∷ []))
    ∷ fact (truths (short_for_refining (lent (tally 5 4 3 2 1) (tally 9 9 9 9 9) 99 99) (tally 5 4 3 2 1) ∷ short_for_refining (lent (tally 9 9 9 9 9) (tally 5 4 3 2 1) 99 99) (tally 5 4 3 2 1) ∷ []) (false ∷ false ∷ []))
    ∷ row (cube []) 5 (refused 11)
    ∷ row (cube []) 4 (refused 11)
    -- at the ends of the range nothing is refused
    ∷ row (span []) 8 (refused 0)
    ∷ row low_hub 1 (refused 0)
    ∷ row wide_cube 2 (refused 0)
    -- each order of two neighbouring checks: 1 before 2, 2 before 3, 3 before 4, 4 before 5, 5 before 6, 6 before 7, 7 before 8, 8 before 9, 9 before 10, 10
    -- before 11
    ∷ row (mesh (pos 0 ∷ []) [] [] [] []) 1 (refused 1)
    ∷ row (mesh (pos 536_870_912 ∷ pos 0 ∷ pos 0 ∷ []) [] [] [] (replicate 250_001 0)) 1 (refused 2)
    ∷ row (wire (pos 536_870_912 ∷ []) [] (1 ∷ [])) 1 (refused 3)
    ∷ row (wire (pos 0 ∷ []) (1 ∷ 1 ∷ []) []) 1 (refused 4)
    ∷ row (wire (pos 0 ∷ pos 8 ∷ []) (1 ∷ 1 ∷ 1 ∷ 1 ∷ []) []) 1 (refused 5)
    ∷ row (mesh square [] (0 ∷ 1 ∷ 2 ∷ 3 ∷ 0 ∷ 2 ∷ 1 ∷ 3 ∷ []) [] []) 1 (refused 6)
    ∷ row (mesh ((cube []).vertices ++ (pos 1 ∷ pos 1 ∷ pos 1 ∷ [])) (up_from 0 8) (0 ∷ 2 ∷ 1 ∷ 3 ∷ []) [] []) 1 (refused 7)
    ∷ row (wire (pos 0 ∷ pos 8 ∷ []) [] (0 ∷ [])) 255 (refused 8)
    ∷ row (cube []) 9 (refused 9)
    ∷ row (cube []) 6 (refused 10)
    -- 1 to 4 and 1 to 8, and then what is said later
    ∷ fact (numbers (table_checks bar 77 ∷ table_checks (wire (pos 0 ∷ pos 8 ∷ []) (1 ∷ 1 ∷ []) []) 77 ∷ mesh_checks bar 77 ∷ []) (77 ∷ 77 ∷ 77 ∷ []))
    ∷ []
