-- Checks 1 to 10 one after the other, what the later checks add, and what a mesh that passes them is. Assumes nothing.
use mathlib.Core.Path.{◌≡◌, refl, sym, ◌∙◌}
use mathlib.Core.Bool.{Bool, true, false}
use Prim.Native.Nat.{ℕ, zero, suc}
use native.Mathlib.Omega.{arith}
use Rattle.rules.specs.declared.Counts.{Counts}
use Rattle.rules.specs.declared.Refusal.{Refusal}
use Rattle.rules.specs.Answers.{number_of}
use Rattle.rules.specs.Mesh.{Mesh, topology}
use Rattle.rules.specs.Refusals.{check, partial_entry, count_out_of_range, coordinate_out_of_range, corner_out_of_range, repeated_corner, duplicate_cell, mismatched_face, isolated_vertex, table_checks, mesh_checks, too_many_rounds, too_large}
use Rattle.rules.specs.EntryPoints.{counts_answer, round_checks}
use Rattle.rules.specs.Viewer.{and_then}
use Rattle.rules.proofs.Named.{number_is_suc}
use Rattle.soundness.specs.Accepted.{Accepted}
use Rattle.soundness.proofs.Checks.{checks_accept}

-- ---- the later checks count only where the earlier ones refuse nothing

Chain : (ℕ → ℕ) → Type 0
Chain f = (later : ℕ) → f later ≡ and_then (f 0) later

no_check : Chain (λ later. later)
unfolding Chain
no_check later = refl

one_check : (b : Bool) (k : ℕ) (f : ℕ → ℕ) → Chain f → Chain (λ later. check b (suc k) (f later))
unfolding Chain
one_check true k f r later = refl
one_check false k f r later = r later

mesh_chain : (m : Mesh) (f : ℕ → ℕ) → Chain f → Chain (λ later. mesh_checks m (f later))
unfolding mesh_checks table_checks
mesh_chain m f r =
    let t = topology m in
    one_check (partial_entry m) 0 _
    (one_check (count_out_of_range m) 1 _
    (one_check (coordinate_out_of_range m) 2 _
    (one_check (corner_out_of_range t) 3 _
    (one_check (repeated_corner t) 4 _
    (one_check (duplicate_cell t) 5 _
    (one_check (mismatched_face t) 6 _
    (one_check (isolated_vertex t) 7 f r)))))))

pub mesh_then : (m : Mesh) (later : ℕ) → mesh_checks m later ≡ and_then (mesh_checks m 0) later
unfolding Chain
mesh_then m = mesh_chain m (λ later. later) no_check

pub rounds_then : (m : Mesh) (rounds later : ℕ) → round_checks m rounds later ≡ and_then (round_checks m rounds 0) later
unfolding Chain
rounds_then m rounds =
    mesh_chain m _ (one_check (too_many_rounds rounds) 8 _ (one_check (too_large rounds (topology m)) 9 (λ later. later) no_check))

-- a refusal by name is one
pub not_zero : (r : Refusal) → number_of r ≡ 0 → ⊥
not_zero r e = let s = number_is_suc r in omega (arith, s.1)

-- the refusal in an answer
pub answer_number : (n : ℕ) (c : Counts) → (counts_answer n c).refusal ≡ n
answer_number zero c = refl
answer_number (suc n) c = refl

pub first_refusal : (n later : ℕ) → (n ≡ 0 → ⊥) → n ≡ and_then n later
first_refusal zero later h = absurd (h refl)
first_refusal (suc n) later h = refl

-- ---- where there is no refusal

-- a check that does not refuse fails its test
pub check_passes : (b : Bool) (k later : ℕ) → check b (suc k) later ≡ 0 → (b ≡ false) × (later ≡ 0)
check_passes true k later e = absurd (omega arith)
check_passes false k later e = (refl, e)

pub both_pass : (k later : ℕ) → and_then k later ≡ 0 → (k ≡ 0) × (later ≡ 0)
both_pass zero later e = (refl, e)
both_pass (suc k) later e = absurd (omega arith)

-- a mesh that passes checks 1 to 10
pub record Passed (m : Mesh) (rounds : ℕ) : Type 0 where
  pub accepted : Accepted m
  pub few : too_many_rounds rounds ≡ false
  pub small : too_large rounds (topology m) ≡ false

pub rounds_pass : (m : Mesh) (rounds : ℕ) → round_checks m rounds 0 ≡ 0 → Passed m rounds
rounds_pass m rounds e =
    let a = both_pass (mesh_checks m 0) _ (sym (mesh_then m _) ∙ e) in
    let b = check_passes (too_many_rounds rounds) 8 _ a.1 in
    let c = check_passes (too_large rounds (topology m)) 9 _ b.1 in
    record { accepted = checks_accept m a.0; few = b.0; small = c.0 }
