-- Sections 6 and 9: refining, irregular count, millimetre report, finished counts: the first refusal in order, the answer, lent memory.
use Rattle.std.specs.Prelude.{Bool, not, ◌||◌, List, map, ℕ, zero, suc, ◌*◌, ◌^◌, length, take, replicate, ℤ, pos, nat_abs, ltb, eqb, Float}
use Rattle.std.specs.Int.Signed.{lt_z}
use Rattle.std.specs.Float.Ieee.{odd}
use Rattle.rules.specs.declared.Counts.{Counts}
use Rattle.rules.specs.declared.CountsAnswer.{CountsAnswer}
use Rattle.rules.specs.declared.CountAnswer.{CountAnswer}
use Rattle.rules.specs.declared.Millimetres.{Millimetres}
use Rattle.rules.specs.declared.MillimetresAnswer.{MillimetresAnswer}
use Rattle.rules.specs.Lists.{keep, up_from, overwritten}
use Rattle.rules.specs.Mesh.{Mesh, Topology, topology}
use Rattle.rules.specs.Averaging.{rank, valence, refined}
use Rattle.rules.specs.Counts.{counts_of, finished_counts, no_counts, fewer}
use Rattle.rules.specs.Refusals.{check, outside, coordinate_out_of_range, mesh_checks, too_many_rounds, too_large}

-- ---- answers

-- five counts beside the refusal number; zeros on refusal (rules 6.1 and 6.3)
abbrev pub counts_answer : ℕ → Counts → CountsAnswer
counts_answer zero c = record { refusal = 0; counts = c }
counts_answer (suc n) c = record { refusal = suc n; counts = no_counts }

-- one count beside the refusal number; 0 on refusal (rules 6.1 and 6.3)
abbrev pub count_answer : ℕ → ℕ → CountAnswer
count_answer zero n = record { refusal = 0; count = n }
count_answer (suc r) n = record { refusal = suc r; count = 0 }

-- ---- lent memory

module _ {A : Type 0} where
  -- a result buffer on return: the result at its front, or unchanged on refusal (rules 6.4 and 6.5)
  abbrev pub result_buffer : ℕ → List A → List A → List A
  result_buffer zero old new = overwritten old new
  result_buffer (suc n) old new = old

-- five lent result tables on return (rules 6.4 and 6.5)
unfoldable pub result_tables : ℕ → Mesh → Mesh → Mesh
result_tables r old new = record {
  vertices = result_buffer r old.vertices new.vertices;
  hexes = result_buffer r old.hexes new.hexes;
  quads = result_buffer r old.quads new.quads;
  segments = result_buffer r old.segments new.segments;
  points = result_buffer r old.points new.points;
}

-- the mesh of the given counts at the front of tables (rule 6.4)
unfoldable pub front_of : (v h q s p : ℕ) → Mesh → Mesh
front_of v h q s p tables = record {
  vertices = take (3 * v) tables.vertices;
  hexes = take (8 * h) tables.hexes;
  quads = take (4 * q) tables.quads;
  segments = take (2 * s) tables.segments;
  points = take p tables.points;
}

abbrev pub front : Counts → Mesh → Mesh
front c = front_of c.vertices c.hexes c.quads c.segments c.points

-- what working numbers hold on return: all zero (rule 6.6)
abbrev pub cleared : List ℕ → List ℕ
cleared old = replicate (length old) 0

-- what working tables hold on return: all zero (rule 6.6)
unfoldable pub cleared_tables : Mesh → Mesh
cleared_tables old = record {
  vertices = replicate (length old.vertices) (pos 0);
  hexes = cleared old.hexes;
  quads = cleared old.quads;
  segments = cleared old.segments;
  points = cleared old.points;
}

-- ---- the finished counts

-- 1 to 10, and then what the later checks say (rules 9.1 and 9.13)
abbrev pub round_checks : Mesh → ℕ → ℕ → ℕ
round_checks m rounds later =
    mesh_checks m
    (check (too_many_rounds rounds) 9
    (check (too_large rounds (topology m)) 10 later))

-- checks 1 to 10, and the five finished counts (rule 9.13)
unfoldable pub finished_answer : Mesh → ℕ → CountsAnswer
finished_answer m rounds = counts_answer (round_checks m rounds 0) (finished_counts rounds (topology m))

-- ---- refining

-- what is lent: the places of output and working tables, the working 32-bit and 64-bit numbers (rule 6.8)
pub record Lent : Type 0 where
  pub output : Counts
  pub working : Counts
  pub words : ℕ
  pub longs : ℕ

-- 11: a table lacks places for the finished count of its kind, or there are not 8 and 3 working numbers a vertex (rule 6.8)
unfoldable pub short_for_refining : Lent → Counts → Bool
short_for_refining lent finished =
    fewer lent.output finished
    || (fewer lent.working finished
    || (ltb lent.words (8 * finished.vertices) || ltb lent.longs (3 * finished.vertices)))

-- refining checks 1 to 11 in order before a round, and nothing after (rule 9.1)
unfoldable pub refining_refusal : Mesh → ℕ → Lent → ℕ
refining_refusal m rounds lent =
    round_checks m rounds (check (short_for_refining lent (finished_counts rounds (topology m))) 11 0)

-- the memory that slices lend (rule 6.7)
abbrev pub lent_by : Mesh → Mesh → List ℕ → List ℕ → Lent
lent_by output working words longs =
    record { output = counts_of output; working = counts_of working; words = length words; longs = length longs }

-- refining answers with the five finished counts (rule 9.2)
unfoldable pub refining_answer : Mesh → ℕ → Mesh → Mesh → List ℕ → List ℕ → CountsAnswer
refining_answer m rounds output working words longs =
    counts_answer (refining_refusal m rounds (lent_by output working words longs)) (finished_counts rounds (topology m))

-- the mesh after the rounds at the front of the output tables (rule 9.2)
unfoldable pub refining_output : Mesh → ℕ → Mesh → Mesh → List ℕ → List ℕ → Mesh
refining_output m rounds output working words longs =
    result_tables (refining_refusal m rounds (lent_by output working words longs)) output (refined rounds m)

-- whether every coordinate is in range, in the first mesh and after each round, one truth value each (rule 4.11)
unfoldable pub range_kept : ℕ → Mesh → List Bool
range_kept rounds m = map (λ (k : ℕ). not (coordinate_out_of_range (refined k m))) (up_from 0 (suc rounds))

-- ---- the irregular count

-- the valence is other than 2 to the power of the rank (rule 9.10)
unfoldable pub irregular : Topology → ℕ → Bool
irregular t v = not (eqb (valence t v) (2 ^ rank t v))

-- how many vertices are irregular (rule 9.11)
unfoldable pub irregular_count : Topology → ℕ
irregular_count t = length (keep (irregular t) (up_from 0 t.vertex_count))

-- checks 1 to 8; the working numbers are not mentioned: their length alters nothing (rules 9.11 and 6.9)
unfoldable pub irregular_answer : Mesh → CountAnswer
irregular_answer m = count_answer (mesh_checks m 0) (irregular_count (topology m))

-- ---- the millimetre report

-- the coordinate over 1024, exactly: the magnitude times 2 ^ 0 over 2 ^ 10, with the sign; 30 digits hold each magnitude (rule 9.12)
unfoldable pub in_millimetres : ℤ → Float
in_millimetres z = odd 30 (lt_z z (pos 0)) (nat_abs z) 0 10

-- checks 3 alone, of all three (rule 9.12)
unfoldable pub millimetres_refusal : ℤ → ℤ → ℤ → ℕ
millimetres_refusal x y z = check (outside x || (outside y || outside z)) 3 0

-- the three floats, zeros on refusal (rule 9.12)
abbrev pub position : ℕ → ℤ → ℤ → ℤ → Millimetres
position zero x y z = record { x = in_millimetres x; y = in_millimetres y; z = in_millimetres z }
position (suc n) x y z = record { x = in_millimetres (pos 0); y = in_millimetres (pos 0); z = in_millimetres (pos 0) }

-- what the millimetre report answers (rule 9.12)
unfoldable pub millimetres_answer : ℤ → ℤ → ℤ → MillimetresAnswer
millimetres_answer x y z =
    let r = millimetres_refusal x y z in
    record { refusal = r; position = position r x y z }
