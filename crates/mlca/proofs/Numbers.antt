-- An answer as one number: it fits 64 bits, and a refusal comes before any count. Assumes nothing.
use mathlib.Core.Path.{◌≡◌, refl, sym, subst, ◌∙◌}
use mathlib.Core.Bool.{Bool, true, false}
use mathlib.Core.List.{List}
use Prim.Native.Nat.{ℕ, zero, suc, ◌/◌, ◌*◌, ◌^◌, ◌≤◌, ◌<◌}
use native.Mathlib.Omega.{arith}
use lib.Dec.{ltb}
use lib.ListN.{length}
use lib.IntN.{pos, neg_ℤ}
use borrow.Author.Tests.{ltb-false}
use Rattle.std.specs.Prelude.{Result, Ok, Err, IfOk}
use Rattle.rules.specs.declared.CountAnswer.{CountAnswer}
use Rattle.rules.specs.declared.Refusal.{Refusal}
use Rattle.rules.specs.Answers.{count_answer_of}
use Rattle.rules.specs.Lists.{up_from}
use Rattle.rules.specs.Mesh.{Mesh, topology}
use Rattle.rules.specs.Refusals.{check, mesh_checks}
use Rattle.rules.specs.EntryPoints.{count_answer, irregular, irregular_count, irregular_answer}
use Rattle.rules.specs.StoredForm.{stored_form, writing_refusal, writing_answer}
use Rattle.rules.specs.Viewer.{and_then, signed}
use Rattle.lists.proofs.Membership.{length_keep, length_up_from}
use Rattle.stored.proofs.Acceptance.{mesh_passes, passing}

-- ---- below zero

pub below_zero : (n count : ℕ) → (n ≡ 0 → ⊥) → neg_ℤ (pos n) ≡ signed n count
below_zero zero count h = absurd (h refl)
below_zero (suc n) count h = refl

-- the first refusal decides
pub first_decides : (k later count : ℕ) → (k ≡ 0 → ⊥) → signed k 0 ≡ signed (and_then k later) count
first_decides zero later count h = absurd (h refl)
first_decides (suc k) later count h = refl

-- ---- answers with a count

pub of_answer : (k n : ℕ) → let r = count_answer k n in signed r.refusal r.count ≡ signed k n
of_answer zero n = refl
of_answer (suc k) n = refl

count_below : (k n b : ℕ) → 0 < b → (k ≡ 0 → n < b) → (count_answer k n).count < b
count_below zero n b p h = h refl
count_below (suc k) n b p h = p

-- a buffer that was written has the bytes
module _ (m : Mesh) (buffer : List ℕ) where
  within : (b : Bool) → ltb (length buffer) (length (stored_form m)) ≡ b → check b 11 0 ≡ 0 → length (stored_form m) ≤ length buffer
  within true e h = absurd (omega arith)
  within false e h = ltb-false (length buffer) (length (stored_form m)) e

  pub bytes_fit : (w : CountAnswer) → length buffer * 1 < 2 ^ 63 → w ≡ writing_answer m buffer → w.count < 2 ^ 63
  unfolding writing_answer writing_refusal
  bytes_fit w l e =
      let k : (count_answer (writing_refusal m (length buffer)) (length (stored_form m))).count < 2 ^ 63 =
      count_below (writing_refusal m (length buffer)) (length (stored_form m)) (2 ^ 63) (omega arith)
      (λ h. let s = within _ refl (sym (passing m _ (mesh_passes m _ h)) ∙ h) in omega (arith, l, s)) in
      subst (λ (a : CountAnswer). a.count < 2 ^ 63) (sym e) k

-- no more vertices are irregular than there are
irregular_few : (m : Mesh) → irregular_count (topology m) ≤ length m.vertices
unfolding irregular_count topology
irregular_few m =
    let n = length m.vertices / 3 in
    let a = length_keep (irregular (topology m)) (up_from 0 n) in
    let b = length_up_from 0 n in
    omega (arith, a, b)

pub irregular_fits : (m : Mesh) (w : CountAnswer) → length m.vertices < 2 ^ 63 → w ≡ irregular_answer m → w.count < 2 ^ 63
unfolding irregular_answer
irregular_fits m w l e =
    let k : (count_answer (mesh_checks m 0) (irregular_count (topology m))).count < 2 ^ 63 =
    count_below (mesh_checks m 0) (irregular_count (topology m)) (2 ^ 63) (omega arith) (λ h. let s = irregular_few m in omega (arith, l, s)) in
    subst (λ (a : CountAnswer). a.count < 2 ^ 63) (sym e) k

-- a count that fits, of a result
pub fits_if_ok : (r : Result ℕ Refusal) (b : ℕ) → (count_answer_of r).count < b → IfOk r (λ (n : ℕ). n < b)
fits_if_ok (Ok n) b h = h
fits_if_ok (Err r) b h = tt
