-- What the viewer's refining promises, where it gives a count of bytes, of the mesh that it wrote. Assumes nothing.
use mathlib.Core.Path.{◌≡◌, refl, sym, ap, subst, ◌∙◌}
use mathlib.Core.Bool.{true}
use mathlib.Core.List.{List}
use Prim.Native.Nat.{ℕ, zero, suc}
use lib.Dec.{T}
use lib.ListN.{length, take, drop, replicate}
use lib.Seq.{take_at}
use lib.IntN.{ℤ, pos}
use lib.Signed.{mag, non_neg}
use Rattle.rules.specs.Lists.{overwritten}
use Rattle.rules.specs.Mesh.{Mesh}
use Rattle.rules.specs.Averaging.{refined}
use Rattle.rules.specs.Accuracy.{Property3}
use Rattle.rules.specs.EntryPoints.{result_buffer, refining_refusal, range_kept}
use Rattle.rules.specs.StoredForm.{stored_mesh, stored_form, reading_refusal, writing_refusal}
use Rattle.rules.specs.Viewer.{fixed_counts, fixed_lent, stored_refining_refusal, signed, viewer_refusal, viewer_answer, viewer_output}
use Rattle.accuracy.proofs.Accepted.{accepted_property_3, range_kept_lem}
use Rattle.stored.proofs.Acceptance.{mesh_passes}
use Rattle.plan.proofs.Refusals.{both_pass}
use Rattle.stored.proofs.Inverse.{same_mesh}
use Rattle.fixed.proofs.Finished.{Accepts, refining_accepts}

-- a number that is not below zero is a count
counted : (k c n : ℕ) → signed k c ≡ pos n → (k ≡ 0) × (c ≡ n)
counted zero c n e = (refl, ap mag e)
counted (suc k) c n e = absurd (subst (λ (z : ℤ). T (non_neg z)) (sym e) tt)

-- one call: its answer r, and the bytes `out` that it leaves
module _ (s : List ℕ) (rounds : ℕ) (buffer out : List ℕ) (r : ℤ) (answer : r ≡ viewer_answer s rounds buffer) (output : out ≡ viewer_output s rounds buffer) (n : ℕ) (e : r ≡ pos n) where
  abbrev first : Mesh
  first = stored_mesh s

  abbrev finished : Mesh
  finished = refined rounds (stored_mesh s)

  answered : (viewer_refusal s rounds (length buffer) ≡ 0) × (length (stored_form finished) ≡ n)
  unfolding viewer_answer
  answered = counted (viewer_refusal s rounds (length buffer)) (length (stored_form finished)) n (sym answer ∙ e)

  passed : (stored_refining_refusal s rounds ≡ 0) × (writing_refusal finished (length buffer) ≡ 0)
  unfolding viewer_refusal
  passed = both_pass (stored_refining_refusal s rounds) (writing_refusal finished (length buffer)) answered.0

  accepts : Accepts first rounds
  unfolding stored_refining_refusal
  accepts = refining_accepts first rounds (both_pass (reading_refusal s fixed_counts) (refining_refusal first rounds fixed_lent) passed.0).1

  -- the mesh in the bytes that it wrote
  written_mesh : stored_mesh (take n out) ≡ finished
  unfolding viewer_output overwritten writing_refusal
  written_mesh =
      let form = stored_form finished in
      let bytes : take n out ≡ form =
      ap (take n) (output ∙ ap (λ (k : ℕ). result_buffer k buffer form) answered.0) ∙ take_at form (drop (length form) buffer) n answered.1 in
      ap stored_mesh bytes ∙ same_mesh finished (mesh_passes finished _ passed.1)

  written_accurate : Property3 rounds first (stored_mesh (take n out)).vertices
  written_accurate = subst (λ (m : Mesh). Property3 rounds first m.vertices) (sym written_mesh) (accepted_property_3 first accepts.accepted rounds)

  rounds_in_range : range_kept rounds first ≡ replicate (suc rounds) true
  rounds_in_range = range_kept_lem first accepts.accepted rounds

-- the four clauses of the call, by the first two
pub promised : (s : List ℕ) (rounds : ℕ) (buffer : List ℕ) {out : List ℕ} {r : ℤ} → r ≡ viewer_answer s rounds buffer → out ≡ viewer_output s rounds buffer
    → (r ≡ viewer_answer s rounds buffer)
    × ((out ≡ viewer_output s rounds buffer)
    × (((n : ℕ) → r ≡ pos n → Property3 rounds (stored_mesh s) (stored_mesh (take n out)).vertices)
    × ((n : ℕ) → r ≡ pos n → range_kept rounds (stored_mesh s) ≡ replicate (suc rounds) true)))
promised s rounds buffer {out} {r} a o = (a, (o, (written_accurate s rounds buffer out r a o, rounds_in_range s rounds buffer out r a o)))
