-- Rows of the table of samples: the exact coordinates, what feeds a coordinate, and the third property, kept and broken.
use Rattle.std.specs.Prelude.{true, false, List, [], ◌∷◌, ◌++◌, map, replicate, pos, negsuc}
use Rattle.rules.specs.Lists.{up_from}
use Rattle.rules.specs.Mesh.{topology}
use Rattle.rules.specs.Averaging.{axis, split_times, rounds_of}
use Rattle.rules.specs.Accuracy.{common, exact_divisor, exact, draws_on, Division, feeding, left, has_remainder, least, greatest, in_box, accurate as near, accurate_at, accuracies}
use Rattle.rules.specs.SampleMeshes.{line, wire, bar, tent, slope, mixed}
use Rattle.rules.specs.SampleClaims.{exactly, division, fed_by, accurate, inaccurate, numbers, lists, wholes, truths, flat, Row, row, fact}

unfoldable pub accuracy_rows : List Row
accuracy_rows =
    -- rule 11.4: exact 2.5, 5.5, 4, 3, 5; the second division of vertex 0 leaves 8 of 16
    row bar 2 (exactly 2 (pos 5 ∷ pos 11 ∷ pos 8 ∷ pos 6 ∷ pos 10 ∷ []))
    ∷ row bar 2 (division 0 0 8 16)
    ∷ row bar 2 (fed_by 0 (0 ∷ 0 ∷ 2 ∷ []))
    ∷ row bar 3 (fed_by 0 (0 ∷ 0 ∷ 0 ∷ 2 ∷ 3 ∷ 0 ∷ 2 ∷ []))
    -- numerators over one divisor (rule 4.4)
    ∷ fact (numbers (map common (rounds_of 2 (topology bar)) ++ (exact_divisor (rounds_of 0 (topology bar)) ∷ exact_divisor (rounds_of 1 (topology bar)) ∷ exact_divisor (rounds_of 2 (topology bar)) ∷ [])) (8_388_608 ∷ 8_192 ∷ 1 ∷ 8_192 ∷ 68_719_476_736 ∷ []))
    ∷ fact (wholes (exact (rounds_of 1 (topology bar)) (axis 0 bar.vertices)) (pos 16_384 ∷ pos 49_152 ∷ pos 32_768 ∷ []))
    -- the topology after no, one and two rounds goes by the split alone (rule 4.3)
    ∷ fact (lists (flat (split_times 0 (topology bar)) ++ (flat (split_times 1 (topology bar)) ++ flat (split_times 2 (topology bar)))) ((2 ∷ []) ∷ (0 ∷ 1 ∷ []) ∷ (3 ∷ []) ∷ (0 ∷ 2 ∷ []) ∷ (2 ∷ 1 ∷ []) ∷ (5 ∷ []) ∷ (0 ∷ 3 ∷ []) ∷ (3 ∷ 2 ∷ []) ∷ (2 ∷ 4 ∷ []) ∷ (4 ∷ 1 ∷ []) ∷ []))
    -- a fine vertex draws on the corners of the parents of its counted cells, and of no other cell (rule 4.5)
    ∷ fact (lists (map (draws_on tent) (0 ∷ 1 ∷ 2 ∷ 3 ∷ 4 ∷ 5 ∷ 6 ∷ 10 ∷ [])) ((1 ∷ 0 ∷ []) ∷ (1 ∷ 0 ∷ []) ∷ (2 ∷ []) ∷ (3 ∷ 4 ∷ []) ∷ (3 ∷ 4 ∷ []) ∷ (1 ∷ 0 ∷ []) ∷ (0 ∷ 1 ∷ 2 ∷ 3 ∷ []) ∷ (0 ∷ 1 ∷ 2 ∷ 3 ∷ []) ∷ []))
    ∷ fact (lists (map (draws_on (topology mixed)) (0 ∷ 4 ∷ 6 ∷ 8 ∷ 9 ∷ [])) ((0 ∷ 1 ∷ 2 ∷ 3 ∷ 4 ∷ 5 ∷ 6 ∷ 7 ∷ []) ∷ (4 ∷ 5 ∷ 6 ∷ 7 ∷ []) ∷ (6 ∷ 8 ∷ []) ∷ (6 ∷ 8 ∷ 8 ∷ 9 ∷ []) ∷ (9 ∷ []) ∷ []))
    -- a segment 0 to 7, twice: the last division of vertex 2 leaves nothing, but earlier ones that feed it do; written 3, exactly 3.5 (rule 4.6)
    ∷ row (wire (pos 0 ∷ pos 7 ∷ []) (0 ∷ 1 ∷ []) []) 2 (fed_by 2 (2 ∷ 0 ∷ 2 ∷ 2 ∷ 1 ∷ []))
    ∷ fact (numbers (map (λ (d : Division). d.before) (feeding 2 (topology (wire (pos 0 ∷ pos 7 ∷ []) (0 ∷ 1 ∷ []) [])) 2)) (1 ∷ 0 ∷ 0 ∷ 0 ∷ 0 ∷ []))
    ∷ fact (numbers (map (left (wire (pos 0 ∷ pos 7 ∷ []) (0 ∷ 1 ∷ []) []) 0) (feeding 2 (topology (wire (pos 0 ∷ pos 7 ∷ []) (0 ∷ 1 ∷ []) [])) 2)) (0 ∷ 12 ∷ 16 ∷ 16 ∷ 4 ∷ []))
    ∷ row (wire (pos 0 ∷ pos 7 ∷ []) (0 ∷ 1 ∷ []) []) 2 (exactly 16 (pos 35 ∷ pos 77 ∷ pos 56 ∷ pos 42 ∷ pos 70 ∷ []))
    ∷ fact (truths (map (has_remainder 2 (wire (pos 0 ∷ pos 7 ∷ []) (0 ∷ 1 ∷ []) []) 0) (up_from 0 5) ++ (has_remainder 0 (wire (pos 0 ∷ pos 7 ∷ []) (0 ∷ 1 ∷ []) []) 0 0 ∷ has_remainder 1 (wire (pos 0 ∷ pos 7 ∷ []) (0 ∷ 1 ∷ []) []) 1 0 ∷ [])) (true ∷ true ∷ true ∷ true ∷ true ∷ false ∷ false ∷ []))
    ∷ fact (truths (map (has_remainder 2 bar 0) (up_from 0 5)) (true ∷ true ∷ false ∷ false ∷ false ∷ []))
    -- the bounding box, both ends included (rule 4.10)
    ∷ fact (wholes (map least ((pos 3 ∷ negsuc 1 ∷ pos 5 ∷ []) ∷ (pos 5 ∷ pos 3 ∷ []) ∷ (pos 3 ∷ pos 5 ∷ []) ∷ (pos 4 ∷ []) ∷ [] ∷ [])) (negsuc 1 ∷ pos 3 ∷ pos 3 ∷ pos 4 ∷ pos 0 ∷ []))
    ∷ fact (wholes (map greatest ((pos 3 ∷ negsuc 1 ∷ pos 5 ∷ []) ∷ (pos 5 ∷ pos 3 ∷ []) ∷ (pos 3 ∷ pos 5 ∷ []) ∷ (negsuc 4 ∷ []) ∷ [] ∷ [])) (pos 5 ∷ pos 5 ∷ pos 5 ∷ negsuc 4 ∷ pos 0 ∷ []))
    ∷ fact (truths (map (in_box (pos 3 ∷ negsuc 1 ∷ pos 5 ∷ [])) (negsuc 2 ∷ negsuc 1 ∷ pos 0 ∷ pos 5 ∷ pos 6 ∷ [])) (false ∷ true ∷ true ∷ true ∷ false ∷ []))
    -- no remainder: equal and nothing else; the divisor is above 0 (rule 4.8)
    ∷ fact (truths (map (near false 1 (pos 6) 2) (pos 2 ∷ pos 3 ∷ pos 4 ∷ []) ++ (near false 1 (pos 0) 0 (pos 0) ∷ near false 3 (negsuc 5) 2 (negsuc 2) ∷ near false 1 (pos 5) 2 (pos 2) ∷ [])) (false ∷ true ∷ false ∷ false ∷ true ∷ false ∷ []))
    -- a remainder: smaller, by less than as many units as there were rounds; one unit too large, exact in spite of it and behind by as many units as
    -- there were rounds break it (rule 4.9)
    ∷ fact (truths (map (near true 1 (pos 5) 2) (pos 1 ∷ pos 2 ∷ pos 3 ∷ []) ++ map (near true 2 (pos 5) 2) (pos 0 ∷ pos 1 ∷ pos 2 ∷ pos 3 ∷ [])) (false ∷ true ∷ false ∷ false ∷ true ∷ true ∷ false ∷ []))
    ∷ fact (truths (map (near true 2 (pos 6) 2) (pos 0 ∷ pos 1 ∷ pos 2 ∷ pos 3 ∷ [])) (false ∷ false ∷ true ∷ false ∷ []))
    ∷ fact (truths (map (near true 1 (negsuc 4) 2) (negsuc 3 ∷ negsuc 2 ∷ negsuc 1 ∷ []) ++ (near true 1 (pos 0) 0 (pos 0) ∷ [])) (false ∷ true ∷ false ∷ false ∷ []))
    -- vertex by vertex and axis by axis: where two segments, a quad and a hex meet; a coordinate outside the box, which an unknown corner at 0 draws
    ∷ fact (truths (map (accurate_at 1 mixed 0 8) (pos 17 ∷ pos 18 ∷ pos 19 ∷ []) ++ (accurate_at 1 mixed 2 8 (negsuc 3) ∷ accurate_at 1 mixed 1 8 (pos 2) ∷ accurate_at 1 mixed 1 8 (pos 1) ∷ [])) (false ∷ true ∷ false ∷ true ∷ true ∷ false ∷ []))
    ∷ fact (truths (accurate_at 1 (wire (pos 8 ∷ []) (0 ∷ 1 ∷ []) []) 0 0 (pos 6) ∷ accurate_at 1 (wire (pos 8 ∷ pos 0 ∷ []) (0 ∷ 1 ∷ []) []) 0 0 (pos 6) ∷ []) (false ∷ true ∷ []))
    ∷ fact (truths (accuracies 1 slope (pos 1 ∷ pos 3 ∷ pos 0 ∷ pos 5 ∷ pos 7 ∷ negsuc 2 ∷ pos 3 ∷ pos 5 ∷ negsuc 0 ∷ [])) (replicate 9 true))
    ∷ fact (truths (accuracies 1 slope (pos 1 ∷ pos 4 ∷ pos 0 ∷ pos 5 ∷ pos 7 ∷ negsuc 2 ∷ pos 3 ∷ pos 5 ∷ negsuc 1 ∷ [])) (true ∷ false ∷ replicate 6 true ++ (false ∷ [])))
    -- the third property of a table: of what a round, two and none give; not of a copied mesh, one unit too large, one too small, axes swapped
    ∷ row slope 1 (accurate (pos 1 ∷ pos 3 ∷ pos 0 ∷ pos 5 ∷ pos 7 ∷ negsuc 2 ∷ pos 3 ∷ pos 5 ∷ negsuc 0 ∷ []))
    ∷ row bar 2 (accurate (line (pos 2 ∷ pos 5 ∷ pos 4 ∷ pos 3 ∷ pos 5 ∷ [])))
    ∷ row bar 0 (accurate (line (pos 0 ∷ pos 8 ∷ [])))
    ∷ row (wire (pos 0 ∷ pos 7 ∷ []) (0 ∷ 1 ∷ []) []) 2 (accurate (line (pos 1 ∷ pos 4 ∷ pos 3 ∷ pos 2 ∷ pos 4 ∷ [])))
    ∷ row bar 1 (inaccurate (line (pos 0 ∷ pos 8 ∷ pos 4 ∷ [])))
    ∷ row bar 2 (inaccurate (line (pos 2 ∷ pos 6 ∷ pos 4 ∷ pos 3 ∷ pos 5 ∷ [])))
    ∷ row bar 1 (inaccurate (line (pos 2 ∷ pos 6 ∷ pos 3 ∷ [])))
    ∷ row slope 1 (inaccurate (pos 3 ∷ pos 1 ∷ pos 0 ∷ pos 5 ∷ pos 7 ∷ negsuc 2 ∷ pos 3 ∷ pos 5 ∷ negsuc 0 ∷ []))
    ∷ []
