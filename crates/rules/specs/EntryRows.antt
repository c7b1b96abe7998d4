-- Rows of the table of samples: answers and lent memory, accepted and refused; the irregular count; the millimetre report.
use Rattle.std.specs.Prelude.{true, false, List, [], ◌∷◌, ◌++◌, map, replicate, ℕ, Ok, Err, pos, negsuc}
use Rattle.std.specs.Float.{fin}
use Rattle.rules.specs.Mesh.{Mesh, mesh, topology}
use Rattle.rules.specs.declared.Refusal.TheVariants.{PartialEntry, CountOutOfRange, CoordinateOutOfRange, CornerOutOfRange, RepeatedCorner, DuplicateCell, MismatchedFace, IsolatedVertex, TooManyRounds, ResultTooLarge, ShortBuffer, WrongFileLength, UnknownForm, WrongIndexWidth, NonzeroPadding}
use Rattle.rules.specs.Averaging.{split_times}
use Rattle.rules.specs.Answers.{number_of, refusal_of, counts_answer_of, count_answer_of, millimetres_answer_of}
use Rattle.rules.specs.EntryPoints.{counts_answer, count_answer, result_buffer, result_tables, front, cleared, cleared_tables, finished_answer, lent_by, refining_answer, refining_output, irregular, irregular_answer, millimetres_refusal, millimetres_answer}
use Rattle.rules.specs.SampleMeshes.{tally, line, wire, bar, cube, grid, hub, mixed, every_kind, lent_tables, work_tables, long_tables}
use Rattle.rules.specs.SampleClaims.{irregulars, millimetres, numbers, lists, truths, tables, position, five, answered, counted, Row, row, fact}

unfoldable pub entry_rows : List Row
entry_rows =
    -- a refusal carries its number and zeros (rule 6.3)
    fact (numbers (answered (counts_answer 0 (tally 1 2 3 4 5)) ++ answered (counts_answer 7 (tally 1 2 3 4 5))) (0 ∷ 1 ∷ 2 ∷ 3 ∷ 4 ∷ 5 ∷ 7 ∷ 0 ∷ 0 ∷ 0 ∷ 0 ∷ 0 ∷ []))
    ∷ fact (numbers (counted (count_answer 0 9) ++ counted (count_answer 7 9)) (0 ∷ 9 ∷ 7 ∷ 0 ∷ []))
    -- each refusal has the number of its rule; 12 is retired (section 7)
    ∷ fact (numbers (map number_of (PartialEntry ∷ CountOutOfRange ∷ CoordinateOutOfRange ∷ CornerOutOfRange ∷ RepeatedCorner ∷ DuplicateCell ∷ MismatchedFace ∷ IsolatedVertex ∷ [])) (1 ∷ 2 ∷ 3 ∷ 4 ∷ 5 ∷ 6 ∷ 7 ∷ 8 ∷ []))
    ∷ fact (numbers (map number_of (TooManyRounds ∷ ResultTooLarge ∷ ShortBuffer ∷ WrongFileLength ∷ UnknownForm ∷ WrongIndexWidth ∷ NonzeroPadding ∷ [])) (9 ∷ 10 ∷ 11 ∷ 13 ∷ 14 ∷ 15 ∷ 16 ∷ []))
    ∷ fact (numbers (refusal_of {A = ℕ} (Ok 5) ∷ refusal_of {A = ℕ} (Err UnknownForm) ∷ []) (0 ∷ 14 ∷ []))
    ∷ fact (numbers (answered (counts_answer_of (Ok (tally 1 2 3 4 5))) ++ answered (counts_answer_of (Err MismatchedFace))) (0 ∷ 1 ∷ 2 ∷ 3 ∷ 4 ∷ 5 ∷ 7 ∷ 0 ∷ 0 ∷ 0 ∷ 0 ∷ 0 ∷ []))
    ∷ fact (numbers (counted (count_answer_of (Ok 9)) ++ counted (count_answer_of (Err MismatchedFace))) (0 ∷ 9 ∷ 7 ∷ 0 ∷ []))
    ∷ fact (position (millimetres_answer_of (Ok (record { x = fin false 3 (negsuc 0); y = fin false 0 (pos 0); z = fin true 1 (negsuc 9) }))) (record { refusal = 0; position = record { x = fin false 3 (negsuc 0); y = fin false 0 (pos 0); z = fin true 1 (negsuc 9) } }))
    ∷ fact (position (millimetres_answer_of (Err CoordinateOutOfRange)) (record { refusal = 3; position = record { x = fin false 0 (pos 0); y = fin false 0 (pos 0); z = fin false 0 (pos 0) } }))
    -- the front of a result buffer, its unused rest, and all of it after a refusal (rules 6.4, 6.5)
    ∷ fact (lists (result_buffer 0 (7 ∷ 8 ∷ 9 ∷ []) (1 ∷ 2 ∷ []) ∷ result_buffer 3 (7 ∷ 8 ∷ 9 ∷ []) (1 ∷ 2 ∷ []) ∷ []) ((1 ∷ 2 ∷ 9 ∷ []) ∷ (7 ∷ 8 ∷ 9 ∷ []) ∷ []))
    ∷ fact (tables
    (result_tables 0 (mesh (pos 1 ∷ pos 1 ∷ []) (2 ∷ 2 ∷ []) (3 ∷ 3 ∷ []) (4 ∷ 4 ∷ []) (5 ∷ 5 ∷ [])) (mesh (pos 11 ∷ []) (12 ∷ []) (13 ∷ []) (14 ∷ []) (15 ∷ [])))
    (mesh (pos 11 ∷ pos 1 ∷ []) (12 ∷ 2 ∷ []) (13 ∷ 3 ∷ []) (14 ∷ 4 ∷ []) (15 ∷ 5 ∷ [])))
    ∷ fact (tables (result_tables 1 mixed bar) mixed)
    ∷ fact (tables (result_tables 1 every_kind mixed) every_kind)
    ∷ fact (tables
    (front (tally 1 2 3 4 5) (mesh (replicate 9 (pos 1)) (replicate 24 2) (replicate 16 3) (replicate 10 4) (replicate 6 5)))
    (mesh (replicate 3 (pos 1)) (replicate 16 2) (replicate 12 3) (replicate 8 4) (replicate 5 5)))
    -- working memory ends all zero, as long as it was (rule 6.6)
    ∷ fact (lists (cleared (5 ∷ 6 ∷ []) ∷ cleared [] ∷ []) ((0 ∷ 0 ∷ []) ∷ [] ∷ []))
    ∷ fact (tables (cleared_tables (mesh (pos 9 ∷ []) (1 ∷ 1 ∷ []) (1 ∷ 1 ∷ 1 ∷ []) (replicate 4 1) (replicate 5 1))) (mesh (pos 0 ∷ []) (0 ∷ 0 ∷ []) (0 ∷ 0 ∷ 0 ∷ []) (replicate 4 0) (replicate 5 0)))
    -- refining: one round, two and none; tables with just the places, and each with one too few (rules 9.1, 9.2)
    ∷ fact (numbers (answered (refining_answer bar 1 lent_tables work_tables (replicate 24 5) (replicate 9 5))) (0 ∷ 3 ∷ 0 ∷ 0 ∷ 2 ∷ 0 ∷ []))
    ∷ fact (tables (refining_output bar 1 lent_tables work_tables (replicate 24 5) (replicate 9 5)) (mesh (pos 2 ∷ pos 0 ∷ pos 0 ∷ pos 6 ∷ pos 0 ∷ pos 0 ∷ pos 4 ∷ pos 0 ∷ pos 0 ∷ pos 7 ∷ []) (9 ∷ []) (9 ∷ []) (0 ∷ 2 ∷ 2 ∷ 1 ∷ 9 ∷ []) (9 ∷ [])))
    ∷ fact (tables (refining_output bar 0 lent_tables work_tables (replicate 16 5) (replicate 6 5)) (mesh (bar.vertices ++ replicate 4 (pos 7)) (9 ∷ []) (9 ∷ []) (0 ∷ 1 ∷ 9 ∷ 9 ∷ 9 ∷ []) (9 ∷ [])))
    ∷ fact (tables (refining_output bar 2 long_tables (mesh (replicate 15 (pos 3)) [] [] (replicate 8 4) []) (replicate 40 5) (replicate 15 5)) (mesh (line (pos 2 ∷ pos 5 ∷ pos 4 ∷ pos 3 ∷ pos 5 ∷ []) ++ (pos 7 ∷ [])) [] [] (0 ∷ 3 ∷ 3 ∷ 2 ∷ 2 ∷ 4 ∷ 4 ∷ 1 ∷ 9 ∷ []) []))
    ∷ fact (numbers
    (map (λ (m : Mesh). (refining_answer bar 1 m lent_tables (replicate 24 5) (replicate 9 5)).refusal)
    (lent_tables ∷ mesh (replicate 8 (pos 7)) [] [] (replicate 5 9) [] ∷ mesh (replicate 10 (pos 7)) [] [] (replicate 3 9) [] ∷ []))
    (0 ∷ 11 ∷ 11 ∷ []))
    ∷ fact (numbers
    (map (λ (m : Mesh). (refining_answer bar 1 lent_tables m (replicate 24 5) (replicate 9 5)).refusal)
    (lent_tables ∷ mesh (replicate 8 (pos 7)) [] [] (replicate 5 9) [] ∷ mesh (replicate 10 (pos 7)) [] [] (replicate 3 9) [] ∷ []))
    (0 ∷ 11 ∷ 11 ∷ []))
    ∷ fact (numbers (answered (refining_answer bar 1 lent_tables work_tables (replicate 23 5) (replicate 9 5)) ++ answered (refining_answer bar 1 lent_tables work_tables (replicate 24 5) (replicate 8 5))) (11 ∷ 0 ∷ 0 ∷ 0 ∷ 0 ∷ 0 ∷ 11 ∷ 0 ∷ 0 ∷ 0 ∷ 0 ∷ 0 ∷ []))
    ∷ fact (tables (refining_output bar 1 lent_tables work_tables (replicate 23 5) (replicate 9 5)) lent_tables)
    ∷ fact (tables (refining_output bar 9 lent_tables work_tables (replicate 24 5) (replicate 9 5)) lent_tables)
    ∷ fact (tables (refining_output bar 1 lent_tables work_tables (replicate 24 5) (replicate 8 5)) lent_tables)
    ∷ fact (tables (refining_output bar 1 lent_tables (mesh (replicate 5 (pos 7)) [] [] (9 ∷ 9 ∷ []) []) (replicate 24 5) (replicate 9 5)) lent_tables)
    ∷ fact (tables (refining_output bar 1 (mesh (replicate 5 (pos 7)) [] [] (9 ∷ 9 ∷ []) []) lent_tables (replicate 24 5) (replicate 9 5)) (mesh (replicate 5 (pos 7)) [] [] (9 ∷ 9 ∷ []) []))
    ∷ fact (tables (refining_output (wire (pos 0 ∷ pos 8 ∷ []) [] (0 ∷ [])) 0 lent_tables (mesh (replicate 6 (pos 3)) [] [] [] (4 ∷ [])) (replicate 16 5) (replicate 6 5)) lent_tables)
    ∷ fact (numbers (answered (refining_answer bar 2 long_tables long_tables (replicate 40 5) (replicate 15 5))) (0 ∷ 5 ∷ 0 ∷ 0 ∷ 4 ∷ 0 ∷ []))
    ∷ fact (numbers (answered (refining_answer bar 2 (mesh (replicate 18 (pos 7)) [] [] (replicate 12 9) (9 ∷ [])) (mesh (replicate 21 (pos 7)) [] [] (replicate 14 9) (9 ∷ [])) (replicate 60 5) (replicate 25 5))) (0 ∷ 5 ∷ 0 ∷ 0 ∷ 4 ∷ 0 ∷ []))
    ∷ fact (numbers (answered (refining_answer (wire (pos 5 ∷ []) [] (0 ∷ [])) 9 lent_tables lent_tables (replicate 24 5) (replicate 9 5))) (9 ∷ 0 ∷ 0 ∷ 0 ∷ 0 ∷ 0 ∷ []))
    ∷ fact (tables (refining_output (wire (pos 5 ∷ []) [] (0 ∷ [])) 9 lent_tables lent_tables (replicate 24 5) (replicate 9 5)) lent_tables)
    ∷ fact (lists (five (lent_by lent_tables work_tables [] []).output ∷ five (lent_by lent_tables work_tables [] []).working ∷ []) ((3 ∷ 0 ∷ 0 ∷ 2 ∷ 1 ∷ []) ∷ (3 ∷ 0 ∷ 0 ∷ 2 ∷ 0 ∷ []) ∷ []))
    ∷ fact (numbers (answered (refining_answer bar 9 lent_tables work_tables (replicate 24 5) (replicate 9 5))) (9 ∷ 0 ∷ 0 ∷ 0 ∷ 0 ∷ 0 ∷ []))
    ∷ fact (numbers (answered (refining_answer (wire (pos 0 ∷ pos 8 ∷ []) [] (0 ∷ [])) 0 lent_tables (mesh (replicate 6 (pos 3)) [] [] [] (4 ∷ [])) (replicate 16 5) (replicate 6 5))) (8 ∷ 0 ∷ 0 ∷ 0 ∷ 0 ∷ 0 ∷ []))
    -- the finished counts: 9 before 10, 10, and never 11 (rule 9.13)
    ∷ fact (numbers (answered (finished_answer bar 1) ++ answered (finished_answer mixed 0)) (0 ∷ 3 ∷ 0 ∷ 0 ∷ 2 ∷ 0 ∷ 0 ∷ 10 ∷ 1 ∷ 1 ∷ 2 ∷ 1 ∷ []))
    ∷ fact (numbers (answered (finished_answer (cube []) 5)) (0 ∷ 35_937 ∷ 32_768 ∷ 0 ∷ 0 ∷ 0 ∷ []))
    ∷ fact (numbers (answered (finished_answer (cube []) 6) ++ answered (finished_answer (cube []) 9)) (10 ∷ 0 ∷ 0 ∷ 0 ∷ 0 ∷ 0 ∷ 9 ∷ 0 ∷ 0 ∷ 0 ∷ 0 ∷ 0 ∷ []))
    ∷ fact (numbers (answered (finished_answer (wire (pos 0 ∷ pos 8 ∷ []) [] (0 ∷ [])) 9)) (8 ∷ 0 ∷ 0 ∷ 0 ∷ 0 ∷ 0 ∷ []))
    -- the irregular count: a valence other than 1, 2, 4, 8 by rank (rules 9.10, 9.11); rules 11.1 and 11.5
    ∷ row bar 0 (irregulars 2)
    ∷ row (wire (pos 0 ∷ pos 8 ∷ []) (0 ∷ 1 ∷ []) (0 ∷ 1 ∷ [])) 0 (irregulars 0)
    ∷ row hub 0 (irregulars 14)
    ∷ row grid 0 (irregulars 0)
    ∷ row (wire (pos 0 ∷ pos 8 ∷ negsuc 7 ∷ pos 16 ∷ []) (0 ∷ 1 ∷ 0 ∷ 2 ∷ 0 ∷ 3 ∷ []) []) 0 (irregulars 4)
    ∷ row (cube []) 1 (irregulars 26)
    ∷ fact (numbers (counted (irregular_answer (cube []))) (0 ∷ 8 ∷ []))
    ∷ fact (truths (map (irregular (topology mixed)) (0 ∷ 4 ∷ 6 ∷ 8 ∷ 9 ∷ [])) (true ∷ true ∷ true ∷ false ∷ false ∷ []))
    ∷ fact (truths (map (irregular (split_times 1 (topology (cube [])))) (0 ∷ 8 ∷ 26 ∷ [])) (true ∷ true ∷ false ∷ []))
    ∷ fact (numbers (counted (irregular_answer bar) ++ (counted (irregular_answer (wire (pos 0 ∷ pos 8 ∷ []) [] (0 ∷ []))) ++ counted (irregular_answer (wire (pos 0 ∷ []) [] (0 ∷ []))))) (0 ∷ 2 ∷ 8 ∷ 0 ∷ 0 ∷ 0 ∷ []))
    -- millimetres: 1,536 units are 1.5 mm, -1 is -1/1024 mm; both ends of the range; each axis out of range (rule 9.12)
    ∷ fact (millimetres (pos 1_536) (fin false 3 (negsuc 0)))
    ∷ fact (millimetres (negsuc 0) (fin true 1 (negsuc 9)))
    ∷ fact (millimetres (pos 0) (fin false 0 (pos 0)))
    ∷ fact (millimetres (pos 536_870_911) (fin false 536_870_911 (negsuc 9)))
    ∷ fact (millimetres (negsuc 536_870_911) (fin true 1 (pos 19)))
    ∷ fact (millimetres (pos 2_147_483_648) (fin false 2 (pos 20)))
    ∷ fact (millimetres (pos 1_073_741_824) (fin false 1 (pos 20)))
    ∷ fact (position (millimetres_answer (pos 1_536) (negsuc 0) (pos 0)) (record { refusal = 0; position = record { x = fin false 3 (negsuc 0); y = fin true 1 (negsuc 9); z = fin false 0 (pos 0) } }))
    ∷ fact (position (millimetres_answer (pos 1_536) (negsuc 0) (pos 536_870_912)) (record { refusal = 3; position = record { x = fin false 0 (pos 0); y = fin false 0 (pos 0); z = fin false 0 (pos 0) } }))
    ∷ fact (position (millimetres_answer (pos 536_870_912) (pos 0) (pos 0)) (record { refusal = 3; position = record { x = fin false 0 (pos 0); y = fin false 0 (pos 0); z = fin false 0 (pos 0) } }))
    ∷ fact (position (millimetres_answer (pos 0) (negsuc 536_870_912) (pos 0)) (record { refusal = 3; position = record { x = fin false 0 (pos 0); y = fin false 0 (pos 0); z = fin false 0 (pos 0) } }))
    ∷ fact (numbers (millimetres_refusal (pos 536_870_912) (pos 0) (pos 0) ∷ millimetres_refusal (pos 0) (pos 536_870_912) (pos 0) ∷ millimetres_refusal (pos 0) (pos 0) (negsuc 536_870_912) ∷ millimetres_refusal (pos 536_870_911) (negsuc 536_870_911) (pos 0) ∷ []) (3 ∷ 3 ∷ 3 ∷ 0 ∷ []))
    ∷ []
