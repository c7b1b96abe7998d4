-- Refining with memory of the fixed sizes, behind reading. Assumes nothing.
use mathlib.Core.Path.{◌≡◌, refl, sym, ap, ◌∙◌}
use mathlib.Core.List.{List}
use Prim.Native.Nat.{ℕ, zero, suc, ◌*◌}
use lib.ListN.{length}
use Rattle.rules.specs.declared.Counts.{Counts}
use Rattle.rules.specs.declared.CountsAnswer.{CountsAnswer}
use Rattle.rules.specs.Mesh.{Mesh, topology}
use Rattle.rules.specs.Averaging.{refined}
use Rattle.rules.specs.Counts.{counts_of, finished_counts}
use Rattle.rules.specs.EntryPoints.{counts_answer, result_tables, front, refining_refusal, lent_by, refining_answer, refining_output}
use Rattle.rules.specs.StoredForm.{header_of, stored_mesh, reading_refusal, reading_answer, reading_output}
use Rattle.rules.specs.Viewer.{fixed_counts, fixed_lent, and_then, stored_refining_refusal}
use Rattle.stored.proofs.Form.{Sized, stored_under, under_sized}
use Rattle.plan.proofs.Refusals.{answer_number}
use Rattle.tables.specs.Lent.{Room}
use Rattle.fixed.proofs.Fronts.{front_result, room_result}

-- a stored mesh has the lengths that its header gives
stored_sized : (s : List ℕ) → Sized (header_of s) (stored_mesh s)
stored_sized s = rw (stored_under s) (under_sized s (header_of s))

-- ---- refining

-- memory of the fixed sizes
pub record FixedMemory (out work : Mesh) (ws ls : List ℕ) : Type 0 where
  pub output : counts_of out ≡ fixed_counts
  pub working : counts_of work ≡ fixed_counts
  pub words : length ws ≡ 8 * 1_000
  pub longs : length ls ≡ 3 * 1_000

module _ {out work : Mesh} {words longs : List ℕ} (f : FixedMemory out work words longs) where
  lent_is : lent_by out work words longs ≡ fixed_lent
  lent_is = cc

  pub refined_answer : (m : Mesh) (rounds : ℕ) {r : CountsAnswer} → r ≡ refining_answer m rounds out work words longs → r ≡ counts_answer (refining_refusal m rounds fixed_lent) (finished_counts rounds (topology m))
  unfolding refining_answer
  refined_answer m rounds e = rw lent_is at e

  pub refined_output : (m : Mesh) (rounds : ℕ) {o : Mesh} → o ≡ refining_output m rounds out work words longs → o ≡ result_tables (refining_refusal m rounds fixed_lent) out (refined rounds m)
  unfolding refining_output
  refined_output m rounds e = rw lent_is at e

-- ---- reading before it

first_decides : (k later : ℕ) (c d : Counts) → (k ≡ 0 → ⊥) → counts_answer k c ≡ counts_answer (and_then k later) d
first_decides zero later c d h = absurd (h refl)
first_decides (suc k) later c d h = refl

first_keeps : (k later : ℕ) (old new : Mesh) → (k ≡ 0 → ⊥) → old ≡ result_tables (and_then k later) old new
unfolding result_tables
first_keeps zero later old new h = absurd (h refl)
first_keeps (suc k) later old new h = refl

-- a call of reading, with tables of the fixed sizes: what it answers, and what it leaves in them
pub record Reading (s : List ℕ) (tables out : Mesh) (r : CountsAnswer) : Type 0 where
  pub sizes : counts_of tables ≡ fixed_counts
  pub answer : r ≡ reading_answer s tables
  pub output : out ≡ reading_output s tables

pub reading : {s : List ℕ} {tables out : Mesh} {r : CountsAnswer} → counts_of tables ≡ fixed_counts → r ≡ reading_answer s tables → out ≡ reading_output s tables → Reading s tables out r
reading a b c = record { sizes = a; answer = b; output = c }

module _ {s : List ℕ} {tables out : Mesh} {r : CountsAnswer} (d : Reading s tables out r) where
  answer_is : r ≡ counts_answer (reading_refusal s fixed_counts) (header_of s).counts
  unfolding reading_answer
  answer_is = rw d.sizes at d.answer

  pub refusal_is : r.refusal ≡ reading_refusal s fixed_counts
  refusal_is = ap (λ (a : CountsAnswer). a.refusal) answer_is ∙ answer_number (reading_refusal s fixed_counts) (header_of s).counts

  -- reading's refusal is the answer, and the output is left as it was
  module _ (h : r.refusal ≡ 0 → ⊥) (rounds : ℕ) where
    pub read_refused : r ≡ counts_answer (stored_refining_refusal s rounds) (finished_counts rounds (topology (stored_mesh s)))
    unfolding stored_refining_refusal
    read_refused = answer_is ∙ first_decides (reading_refusal s fixed_counts) _ _ _ (λ k. h (refusal_is ∙ k))

    pub read_kept : (old : Mesh) → old ≡ result_tables (stored_refining_refusal s rounds) old (refined rounds (stored_mesh s))
    unfolding stored_refining_refusal
    read_kept old = first_keeps (reading_refusal s fixed_counts) _ old _ (λ k. h (refusal_is ∙ k))

  -- what is read is the stored mesh, at the front of the tables, and refining decides
  module _ (h : r.refusal ≡ 0) where
    none : reading_refusal s fixed_counts ≡ 0
    none = sym refusal_is ∙ h

    counts_are : r.counts ≡ (header_of s).counts
    counts_are = ap (λ (a : CountsAnswer). a.counts) (answer_is ∙ ap (λ (k : ℕ). counts_answer k (header_of s).counts) none)

    stored : out ≡ result_tables 0 tables (stored_mesh s)
    unfolding reading_output
    stored = d.output ∙ rw d.sizes (ap (λ (k : ℕ). result_tables k tables (stored_mesh s)) none)

    pub then_refining : (rounds : ℕ) → stored_refining_refusal s rounds ≡ refining_refusal (stored_mesh s) rounds fixed_lent
    unfolding stored_refining_refusal
    then_refining rounds = ap (λ (k : ℕ). and_then k (refining_refusal (stored_mesh s) rounds fixed_lent)) none

    -- of the tables by another name, as the code reads them
    module _ {t : Mesh} (same : t ≡ out) where
      pub read_front : {m : Mesh} → m ≡ front r.counts t → m ≡ stored_mesh s
      read_front e = e ∙ rw (same, counts_are, stored) (front_result (header_of s) tables (stored_mesh s) (stored_sized s))

      pub read_room : Room r.counts t
      read_room = rw (same, counts_are, stored) (room_result (header_of s) tables (stored_mesh s) (stored_sized s))
