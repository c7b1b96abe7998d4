-- What the viewer's calls answer and leave, call by call. Assumes nothing.
use mathlib.Core.Path.{◌≡◌, refl, sym, ap, ◌∙◌}
use mathlib.Core.List.{List}
use Prim.Native.Nat.{ℕ, zero, suc}
use lib.ListN.{length, length-take}
use native.Mathlib.Omega.{arith}
use Rattle.rules.specs.declared.Counts.{Counts}
use Prim.Native.Nat.{◌<◌, ◌*◌}
use Rattle.rules.specs.declared.CountAnswer.{CountAnswer}
use Rattle.rules.specs.declared.CountsAnswer.{CountsAnswer}
use Rattle.rules.specs.Mesh.{Mesh, topology}
use Rattle.rules.specs.Averaging.{refined}
use Rattle.rules.specs.Refusals.{mesh_checks}
use Rattle.rules.specs.EntryPoints.{result_buffer, front_of, front, irregular_count, irregular_answer}
use Rattle.rules.specs.StoredForm.{stored_mesh, stored_form, reading_refusal, writing_refusal, writing_answer, writing_output}
use Rattle.rules.specs.Viewer.{fixed_counts, and_then, stored_refining_refusal, signed, viewer_refusal, viewer_answer, viewer_output, viewer_irregular_count}
use Rattle.fixed.proofs.Answers.{Reading, refusal_is as read_refusal}
use Rattle.fixed.proofs.Finished.{Refining, refusal_is}
use Rattle.mlca.proofs.Numbers.{first_decides, of_answer}

-- ---- one number for an answer

pub writing_number : (m : Mesh) (buffer : List ℕ) (w : CountAnswer) → w ≡ writing_answer m buffer
    → signed w.refusal w.count ≡ signed (writing_refusal m (length buffer)) (length (stored_form m))
unfolding writing_answer
writing_number m buffer w e = rw e (of_answer (writing_refusal m (length buffer)) (length (stored_form m)))

pub irregular_number : (m : Mesh) (w : CountAnswer) → w ≡ irregular_answer m → signed w.refusal w.count ≡ signed (mesh_checks m 0) (irregular_count (topology m))
unfolding irregular_answer
irregular_number m w e = rw e (of_answer (mesh_checks m 0) (irregular_count (topology m)))

-- ---- refining

first_keeps : (k later : ℕ) (old new : List ℕ) → (k ≡ 0 → ⊥) → old ≡ result_buffer (and_then k later) old new
first_keeps zero later old new h = absurd (h refl)
first_keeps (suc k) later old new h = refl

module _ {s : List ℕ} {rounds : ℕ} {old out : Mesh} {r : CountsAnswer} (d : Refining s rounds old out r) (buffer : List ℕ) where
  module _ (h : r.refusal ≡ 0 → ⊥) where
    pub refining_refused : signed r.refusal 0 ≡ viewer_answer s rounds buffer
    unfolding viewer_answer viewer_refusal
    refining_refused = rw (refusal_is d) (first_decides (stored_refining_refusal s rounds) _ _ (λ k. h (refusal_is d ∙ k)))

    pub refining_kept : buffer ≡ viewer_output s rounds buffer
    unfolding viewer_output viewer_refusal
    refining_kept = first_keeps (stored_refining_refusal s rounds) _ buffer _ (λ k. h (refusal_is d ∙ k))

  module _ (h : r.refusal ≡ 0) where
    then_writing : viewer_refusal s rounds (length buffer) ≡ writing_refusal (refined rounds (stored_mesh s)) (length buffer)
    unfolding viewer_refusal
    then_writing = ap (λ (k : ℕ). and_then k (writing_refusal (refined rounds (stored_mesh s)) (length buffer))) (sym (refusal_is d) ∙ h)

    pub written_answer : signed (writing_refusal (refined rounds (stored_mesh s)) (length buffer)) (length (stored_form (refined rounds (stored_mesh s)))) ≡ viewer_answer s rounds buffer
    unfolding viewer_answer
    written_answer = ap (λ (k : ℕ). signed k (length (stored_form (refined rounds (stored_mesh s))))) (sym then_writing)

    pub written_output : writing_output (refined rounds (stored_mesh s)) buffer ≡ viewer_output s rounds buffer
    unfolding viewer_output writing_output
    written_output = ap (λ (k : ℕ). result_buffer k buffer (stored_form (refined rounds (stored_mesh s)))) (sym then_writing)

-- ---- the irregular count

module _ {s : List ℕ} {tables out : Mesh} {r : CountsAnswer} (d : Reading s tables out r) where
  pub reading_refused : (r.refusal ≡ 0 → ⊥) → signed r.refusal 0 ≡ viewer_irregular_count s
  unfolding viewer_irregular_count
  reading_refused h = rw (read_refusal d) (first_decides (reading_refusal s fixed_counts) _ _ (λ k. h (read_refusal d ∙ k)))

  pub then_counted : r.refusal ≡ 0 → signed (mesh_checks (stored_mesh s) 0) (irregular_count (topology (stored_mesh s))) ≡ viewer_irregular_count s
  unfolding viewer_irregular_count
  then_counted h =
      ap (λ (k : ℕ). signed (and_then k (mesh_checks (stored_mesh s) 0)) (irregular_count (topology (stored_mesh s)))) (sym h ∙ read_refusal d)

-- the front of tables is no longer than they are
pub front_fits : (c : Counts) (t : Mesh) (b : ℕ) → length t.vertices < b → length (front c t).vertices < b
unfolding front_of
front_fits c t b h = omega (arith, length-take (3 * c.vertices) t.vertices)
