-- A stored mesh that was refined on tables of the fixed sizes: what stands at the front of the output. Assumes nothing.
use mathlib.Core.Path.{◌≡◌, sym, ap, subst, ◌∙◌}
use mathlib.Core.Bool.{false}
use mathlib.Core.List.{List}
use Prim.Native.Nat.{ℕ}
use Rattle.rules.specs.declared.Counts.{Counts}
use Rattle.rules.specs.declared.CountsAnswer.{CountsAnswer}
use Rattle.rules.specs.Mesh.{Mesh, topology}
use Rattle.rules.specs.Averaging.{refined}
use Rattle.rules.specs.Counts.{finished_counts, fewer}
use Rattle.rules.specs.EntryPoints.{counts_answer, result_tables, front, round_checks, short_for_refining, refining_refusal}
use Rattle.rules.specs.StoredForm.{stored_mesh, reading_refusal}
use Rattle.rules.specs.Viewer.{fixed_counts, fixed_lent, stored_refining_refusal}
use Rattle.lists.proofs.Tests.{or_neither}
use Rattle.soundness.specs.Accepted.{Accepted}
use Rattle.soundness.proofs.Rounds.{refined_counts, refined_entire}
use Rattle.stored.specs.Form.{header_for}
use Rattle.stored.proofs.Form.{Sized, whole_sized}
use Rattle.plan.proofs.Refusals.{answer_number, check_passes, both_pass, rounds_then, rounds_pass}
use Rattle.tables.specs.Lent.{Room}
use Rattle.fixed.proofs.Fronts.{front_result, room_result}

-- ---- what refining lets through

-- a mesh that passes the checks, and whose finished counts the tables have places for
pub record Accepts (m : Mesh) (rounds : ℕ) : Type 0 where
  pub accepted : Accepted m
  pub places : fewer fixed_counts (finished_counts rounds (topology m)) ≡ false

pub refining_accepts : (m : Mesh) (rounds : ℕ) → refining_refusal m rounds fixed_lent ≡ 0 → Accepts m rounds
unfolding refining_refusal short_for_refining
refining_accepts m rounds e =
    let f = finished_counts rounds (topology m) in
    let a = both_pass (round_checks m rounds 0) _ (sym (rounds_then m rounds _) ∙ e) in
    let d = check_passes (short_for_refining fixed_lent f) 10 0 a.1 in
    record { accepted = (rounds_pass m rounds a.0).accepted; places = (or_neither (fewer fixed_counts f) _ d.0).0 }

-- ---- the finished mesh

pub finished_sized : (m : Mesh) (rounds : ℕ) → Accepted m → Sized (header_for (finished_counts rounds (topology m))) (refined rounds m)
finished_sized m rounds a = subst (λ (c : Counts). Sized (header_for c) (refined rounds m)) (refined_counts rounds m a.sound) (whole_sized (refined rounds m) (refined_entire rounds m a.entire))

-- a call of `refine_stored`: what it answers, and what it leaves in the output
pub record Refining (s : List ℕ) (rounds : ℕ) (old out : Mesh) (r : CountsAnswer) : Type 0 where
  pub answer : r ≡ counts_answer (stored_refining_refusal s rounds) (finished_counts rounds (topology (stored_mesh s)))
  pub output : out ≡ result_tables (stored_refining_refusal s rounds) old (refined rounds (stored_mesh s))

pub refining : {s : List ℕ} {rounds : ℕ} {old out : Mesh} {r : CountsAnswer} → r ≡ counts_answer (stored_refining_refusal s rounds) (finished_counts rounds (topology (stored_mesh s)))
    → out ≡ result_tables (stored_refining_refusal s rounds) old (refined rounds (stored_mesh s)) → Refining s rounds old out r
refining a b = record { answer = a; output = b }

module _ {s : List ℕ} {rounds : ℕ} {old out : Mesh} {r : CountsAnswer} (d : Refining s rounds old out r) where
  pub refusal_is : r.refusal ≡ stored_refining_refusal s rounds
  refusal_is = ap (λ (a : CountsAnswer). a.refusal) d.answer ∙ answer_number (stored_refining_refusal s rounds) _

  module _ (h : r.refusal ≡ 0) where
    none : stored_refining_refusal s rounds ≡ 0
    none = sym refusal_is ∙ h

    pub refining_accepted : Accepts (stored_mesh s) rounds
    unfolding stored_refining_refusal
    refining_accepted = refining_accepts (stored_mesh s) rounds (both_pass (reading_refusal s fixed_counts) _ none).1

    pub counts_are : r.counts ≡ finished_counts rounds (topology (stored_mesh s))
    counts_are = ap (λ (a : CountsAnswer). a.counts) (d.answer ∙ ap (λ (k : ℕ). counts_answer k (finished_counts rounds (topology (stored_mesh s)))) none)

    stored : out ≡ result_tables 0 old (refined rounds (stored_mesh s))
    stored = d.output ∙ ap (λ (k : ℕ). result_tables k old (refined rounds (stored_mesh s))) none

    pub finished_front : front r.counts out ≡ refined rounds (stored_mesh s)
    finished_front = rw (counts_are, stored) (front_result (header_for _) old _ (finished_sized (stored_mesh s) rounds refining_accepted.accepted))

    -- of the tables by another name, as the code reads them
    module _ {t : Mesh} (same : t ≡ out) where
      pub finished_mesh : {m : Mesh} → m ≡ front r.counts t → m ≡ refined rounds (stored_mesh s)
      finished_mesh e = e ∙ ap (front r.counts) same ∙ finished_front

      pub finished_room : Room r.counts t
      finished_room = rw (same, counts_are, stored) (room_result (header_for _) old _ (finished_sized (stored_mesh s) rounds refining_accepted.accepted))
