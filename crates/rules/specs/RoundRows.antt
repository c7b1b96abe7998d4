-- Rows of the table of samples: rounds, cell by cell and coordinate by coordinate; ranks and valences.
use Rattle.std.specs.Prelude.{true, false, List, [], ◌∷◌, replicate, pos, negsuc}
use Rattle.rules.specs.Lists.{up_from}
use Rattle.rules.specs.Mesh.{mesh}
use Rattle.rules.specs.SampleMeshes.{line, wire, bar, square, cube, sides, grid, dots, hub, span, low_hub, wide_cube, mixed}
use Rattle.rules.specs.SampleClaims.{vertices, cells, counts, ranks, valences, division, in_range, Row, row}

unfoldable pub round_rows : List Row
round_rows =
    -- rule 11.1
    row bar 1 (vertices 0 (line (pos 2 ∷ pos 6 ∷ pos 4 ∷ [])))
    ∷ row bar 1 (counts 3 0 0 2 0)
    ∷ row bar 1 (cells [] [] (0 ∷ 2 ∷ 2 ∷ 1 ∷ []) [])
    -- rule 11.2
    ∷ row (wire (pos 0 ∷ pos 7 ∷ []) (0 ∷ 1 ∷ []) []) 1 (vertices 0 (line (pos 1 ∷ pos 5 ∷ pos 3 ∷ [])))
    -- rule 11.3
    ∷ row (wire (pos 0 ∷ negsuc 6 ∷ []) (0 ∷ 1 ∷ []) []) 1 (vertices 0 (line (negsuc 1 ∷ negsuc 5 ∷ negsuc 3 ∷ [])))
    -- rule 11.4
    ∷ row bar 2 (vertices 0 (line (pos 2 ∷ pos 5 ∷ pos 4 ∷ pos 3 ∷ pos 5 ∷ [])))
    ∷ row bar 3 (vertices 0 (line (pos 2 ∷ pos 5 ∷ pos 4 ∷ pos 3 ∷ pos 4 ∷ pos 2 ∷ pos 3 ∷ pos 4 ∷ pos 5 ∷ [])))
    -- rule 11.5
    ∷ row (wire (pos 0 ∷ pos 8 ∷ []) (0 ∷ 1 ∷ []) (0 ∷ 1 ∷ [])) 1 (vertices 0 (line (pos 0 ∷ pos 8 ∷ pos 4 ∷ [])))
    -- rule 11.6
    ∷ row (wire (pos 0 ∷ pos 8 ∷ negsuc 7 ∷ pos 16 ∷ []) (0 ∷ 1 ∷ 0 ∷ 2 ∷ 0 ∷ 3 ∷ []) []) 1 (vertices 0 (pos 1 ∷ []))
    ∷ row (wire (pos 0 ∷ pos 8 ∷ negsuc 7 ∷ pos 16 ∷ []) (0 ∷ 1 ∷ 0 ∷ 2 ∷ 0 ∷ 3 ∷ []) []) 1 (division 0 0 16 48)
    -- rule 11.7
    ∷ row (mesh square [] (0 ∷ 1 ∷ 2 ∷ 3 ∷ []) [] []) 1 (vertices 0 (pos 2 ∷ pos 2 ∷ pos 0 ∷ []))
    -- rule 11.8
    ∷ row (cube []) 1 (counts 27 8 0 0 0)
    ∷ row (cube []) 1 (vertices 0 (pos 2 ∷ pos 2 ∷ pos 2 ∷ []))
    ∷ row (cube []) 1 (vertices 8 (pos 4 ∷ pos 2 ∷ pos 2 ∷ []))
    -- rule 11.9
    ∷ row (cube sides) 1 (vertices 0 (pos 1 ∷ pos 1 ∷ pos 1 ∷ []))
    ∷ row (cube sides) 1 (vertices 6 (pos 6 ∷ pos 6 ∷ pos 6 ∷ []))
    ∷ row (cube sides) 1 (vertices 8 (pos 4 ∷ pos 1 ∷ pos 1 ∷ []))
    -- rule 11.10
    ∷ row (cube []) 2 (counts 125 64 0 0 0)
    ∷ row (cube []) 2 (vertices 124 (pos 3 ∷ pos 5 ∷ pos 5 ∷ []))
    -- rule 11.12
    ∷ row grid 0 (ranks (0 ∷ 1 ∷ 0 ∷ 1 ∷ 2 ∷ 1 ∷ 0 ∷ 1 ∷ 0 ∷ []))
    ∷ row grid 0 (valences (1 ∷ 2 ∷ 1 ∷ 2 ∷ 4 ∷ 2 ∷ 1 ∷ 2 ∷ 1 ∷ []))
    ∷ row (dots 2) 0 (ranks (3 ∷ 3 ∷ []))
    ∷ row (dots 2) 0 (valences (0 ∷ 0 ∷ []))
    -- midpoints are not rounded first: segments 0 to 1 and 0 to 7, the shared vertex goes to 1
    ∷ row (wire (pos 0 ∷ pos 1 ∷ pos 7 ∷ []) (0 ∷ 1 ∷ 0 ∷ 2 ∷ []) []) 1 (vertices 0 (line (pos 1 ∷ pos 0 ∷ pos 5 ∷ pos 0 ∷ pos 3 ∷ [])))
    -- midpoints are not matched by coordinates: two separate segments 0 to 8 give 6 vertices
    ∷ row (wire (pos 0 ∷ pos 8 ∷ pos 0 ∷ pos 8 ∷ []) (0 ∷ 1 ∷ 2 ∷ 3 ∷ []) []) 1 (counts 6 0 0 4 0)
    ∷ row (wire (pos 0 ∷ pos 8 ∷ pos 0 ∷ pos 8 ∷ []) (0 ∷ 1 ∷ 2 ∷ 3 ∷ []) []) 1 (cells [] [] (0 ∷ 4 ∷ 4 ∷ 1 ∷ 2 ∷ 5 ∷ 5 ∷ 3 ∷ []) [])
    -- a quad on a hex's face shares that face's number, 21, wherever it starts and whichever way it goes
    ∷ row (cube (7 ∷ 6 ∷ 5 ∷ 4 ∷ [])) 1
    (cells
    (0 ∷ 8 ∷ 20 ∷ 11 ∷ 16 ∷ 22 ∷ 26 ∷ 25 ∷ 8 ∷ 1 ∷ 9 ∷ 20 ∷ 22 ∷ 17 ∷ 23 ∷ 26 ∷ 20 ∷ 9 ∷ 2 ∷ 10 ∷ 26 ∷ 23 ∷ 18 ∷ 24 ∷ 11 ∷ 20 ∷ 10 ∷ 3 ∷ 25 ∷ 26 ∷ 24 ∷ 19 ∷ 16 ∷ 22 ∷ 26 ∷ 25 ∷ 4 ∷ 12 ∷ 21 ∷ 15 ∷ 22 ∷ 17 ∷ 23 ∷ 26 ∷ 12 ∷ 5 ∷ 13 ∷ 21 ∷ 26 ∷ 23 ∷ 18 ∷ 24 ∷ 21 ∷ 13 ∷ 6 ∷ 14 ∷ 25 ∷ 26 ∷ 24 ∷ 19 ∷ 15 ∷ 21 ∷ 14 ∷ 7 ∷ [])
    (7 ∷ 14 ∷ 21 ∷ 15 ∷ 14 ∷ 6 ∷ 13 ∷ 21 ∷ 21 ∷ 13 ∷ 5 ∷ 12 ∷ 15 ∷ 21 ∷ 12 ∷ 4 ∷ []) [] [])
    -- three hexes round an edge
    ∷ row hub 1 (counts 57 24 0 0 0)
    ∷ row hub 1 (vertices 0 (pos 0 ∷ negsuc 0 ∷ pos 2 ∷ pos 6 ∷ pos 0 ∷ pos 2 ∷ pos 4 ∷ pos 5 ∷ pos 2 ∷ []))
    ∷ row hub 1 (vertices 22 (pos 0 ∷ negsuc 0 ∷ pos 4 ∷ []))
    ∷ row hub 1 (division 0 0 16 192)
    ∷ row hub 1 (division 1 0 176 192)
    ∷ row hub 0 (valences (3 ∷ 2 ∷ 1 ∷ 2 ∷ 1 ∷ 2 ∷ 1 ∷ 3 ∷ 2 ∷ 1 ∷ 2 ∷ 1 ∷ 2 ∷ 1 ∷ []))
    -- a hex, a quad, segments and a point together; a quad and a segment that no hex has
    ∷ row mixed 2 (counts 133 64 16 8 1)
    ∷ row mixed 1 (vertices 0 (pos 2 ∷ pos 2 ∷ pos 2 ∷ pos 6 ∷ pos 2 ∷ pos 2 ∷ pos 6 ∷ pos 6 ∷ pos 2 ∷ pos 2 ∷ pos 6 ∷ pos 2 ∷ pos 2 ∷ pos 2 ∷ pos 8 ∷ pos 6 ∷ pos 2 ∷ pos 8 ∷ pos 11 ∷ pos 6 ∷ pos 4 ∷ pos 2 ∷ pos 6 ∷ pos 8 ∷ pos 18 ∷ pos 2 ∷ negsuc 3 ∷ pos 21 ∷ negsuc 4 ∷ pos 4 ∷ pos 4 ∷ pos 2 ∷ pos 2 ∷ []))
    ∷ row mixed 1 (ranks (3 ∷ 3 ∷ 3 ∷ 3 ∷ 2 ∷ 2 ∷ 1 ∷ 2 ∷ 1 ∷ 0 ∷ 3 ∷ 3 ∷ 3 ∷ 3 ∷ 2 ∷ 2 ∷ 2 ∷ 2 ∷ 3 ∷ 3 ∷ 3 ∷ 3 ∷ 1 ∷ 1 ∷ 3 ∷ 2 ∷ 3 ∷ 3 ∷ 3 ∷ 3 ∷ 3 ∷ []))
    ∷ row mixed 1 (valences (1 ∷ 1 ∷ 1 ∷ 1 ∷ 1 ∷ 1 ∷ 1 ∷ 1 ∷ 2 ∷ 1 ∷ 2 ∷ 2 ∷ 2 ∷ 2 ∷ 2 ∷ 2 ∷ 2 ∷ 2 ∷ 2 ∷ 2 ∷ 2 ∷ 2 ∷ 2 ∷ 2 ∷ 4 ∷ 4 ∷ 4 ∷ 4 ∷ 4 ∷ 4 ∷ 8 ∷ []))
    ∷ row mixed 1
    (cells
    (0 ∷ 10 ∷ 24 ∷ 13 ∷ 18 ∷ 26 ∷ 30 ∷ 29 ∷ 10 ∷ 1 ∷ 11 ∷ 24 ∷ 26 ∷ 19 ∷ 27 ∷ 30 ∷ 24 ∷ 11 ∷ 2 ∷ 12 ∷ 30 ∷ 27 ∷ 20 ∷ 28 ∷ 13 ∷ 24 ∷ 12 ∷ 3 ∷ 29 ∷ 30 ∷ 28 ∷ 21 ∷ 18 ∷ 26 ∷ 30 ∷ 29 ∷ 4 ∷ 14 ∷ 25 ∷ 17 ∷ 26 ∷ 19 ∷ 27 ∷ 30 ∷ 14 ∷ 5 ∷ 15 ∷ 25 ∷ 30 ∷ 27 ∷ 20 ∷ 28 ∷ 25 ∷ 15 ∷ 6 ∷ 16 ∷ 29 ∷ 30 ∷ 28 ∷ 21 ∷ 17 ∷ 25 ∷ 16 ∷ 7 ∷ [])
    (4 ∷ 14 ∷ 25 ∷ 17 ∷ 14 ∷ 5 ∷ 15 ∷ 25 ∷ 25 ∷ 15 ∷ 6 ∷ 16 ∷ 17 ∷ 25 ∷ 16 ∷ 7 ∷ [])
    (6 ∷ 22 ∷ 22 ∷ 8 ∷ 8 ∷ 23 ∷ 23 ∷ 9 ∷ []) (9 ∷ []))
    -- no round: the mesh itself
    ∷ row mixed 0 (cells (up_from 0 8) (4 ∷ 5 ∷ 6 ∷ 7 ∷ []) (6 ∷ 8 ∷ 8 ∷ 9 ∷ []) (9 ∷ []))
    ∷ row bar 0 (vertices 0 (line (pos 0 ∷ pos 8 ∷ [])))
    -- a lone point is the same after 8 rounds (rule 11.13)
    ∷ row (wire (pos 5 ∷ []) [] (0 ∷ [])) 8 (vertices 0 (pos 5 ∷ pos 0 ∷ pos 0 ∷ []))
    -- what is out of range before any round may be in range after one, after two, or never (rule 4.11)
    ∷ row (wire (pos 0 ∷ pos 536870912 ∷ []) (0 ∷ 1 ∷ []) []) 0 (in_range (false ∷ []))
    ∷ row (wire (pos 0 ∷ pos 536870912 ∷ []) (0 ∷ 1 ∷ []) []) 4 (in_range (false ∷ replicate 4 true))
    ∷ row (wire (pos 0 ∷ negsuc 536870912 ∷ []) (0 ∷ 1 ∷ []) []) 1 (in_range (false ∷ true ∷ []))
    ∷ row (wire (pos 0 ∷ pos 751619277 ∷ []) (0 ∷ 1 ∷ []) []) 3 (in_range (false ∷ false ∷ true ∷ true ∷ []))
    ∷ row (wire (pos 536870912 ∷ []) [] (0 ∷ [])) 4 (in_range (replicate 5 false))
    -- at both ends of the range, through several rounds: what is in range stays in range
    ∷ row (span []) 1 (vertices 0 (line (negsuc 268435456 ∷ pos 268435455 ∷ negsuc 0 ∷ [])))
    ∷ row (span []) 3 (in_range (replicate 4 true))
    ∷ row (span (0 ∷ 1 ∷ [])) 1 (vertices 0 (line (negsuc 536870911 ∷ pos 536870911 ∷ negsuc 0 ∷ [])))
    ∷ row (wire (pos 536870911 ∷ []) [] (0 ∷ [])) 8 (vertices 0 (line (pos 536870911 ∷ [])))
    ∷ row (wire (pos 536870911 ∷ []) [] (0 ∷ [])) 8 (in_range (replicate 9 true))
    ∷ row low_hub 1 (vertices 0 (replicate 171 (negsuc 536870911)))
    ∷ row low_hub 1 (in_range (true ∷ true ∷ []))
    ∷ row wide_cube 1 (vertices 0 (replicate 3 (negsuc 357913941)))
    ∷ row wide_cube 1 (vertices 6 (replicate 3 (pos 357913940)))
    ∷ row wide_cube 1 (in_range (true ∷ true ∷ []))
    ∷ []
