-- A plan, refusal by refusal, and the answer that it leads to. Assumes nothing.
use mathlib.Core.Path.{◌≡◌, refl, sym, ap, subst, ◌∙◌}
use mathlib.Core.Bool.{true, false}
use Prim.Native.Nat.{ℕ, zero, suc, ◌≤◌, ◌<◌}
use native.Mathlib.Omega.{arith}
use borrow.Author.Tests.{lt-ltb, le-ltb}
use Rattle.rules.specs.declared.Counts.{Counts}
use Rattle.rules.specs.declared.Sizes.{Sizes}
use Rattle.rules.specs.Mesh.{Mesh, topology}
use Rattle.rules.specs.Counts.{sizes, sizes_after, counts_in, finished_counts, out_of_range}
use Rattle.rules.specs.Refusals.{check, mesh_checks, too_many_rounds, too_large}
use Rattle.rules.specs.EntryPoints.{counts_answer, finished_answer}
use Rattle.rules.specs.Viewer.{and_then}
use Rattle.soundness.specs.Accepted.{Accepted}
use Rattle.soundness.specs.Growth.{InRange}
use Rattle.soundness.proofs.Checks.{accepted_passes}
use Rattle.soundness.proofs.Rounds.{in_range_lem}
use Rattle.plan.specs.declared.Growth.{Growth}
use Rattle.plan.specs.Planned.{Sized, Planned}
use Rattle.counting.specs.Bounded.{Narrow}
use Rattle.rules.specs.declared.Refusal.{Refusal}
use Rattle.rules.specs.declared.Refusal.TheVariants.{TooManyRounds, ResultTooLarge}
use Rattle.rules.specs.Answers.{number_of, counts_answer_of}
use Rattle.rules.proofs.Named.{refused_counts}
use Rattle.std.specs.Prelude.{Ok, Err}
use Rattle.plan.proofs.Refusals.{mesh_then, not_zero, first_refusal, Passed, rounds_pass}

-- ---- a plan

module _ (m : Mesh) (rounds : ℕ) where
  -- checks 1 to 8
  pub planned_mesh : (r : Refusal) → number_of r ≡ mesh_checks m 0 → Planned m rounds (Err r)
  planned_mesh r e =
      first_refusal (number_of r) _ (not_zero r)
      ∙ ap (λ (k : ℕ). and_then k (check (too_many_rounds rounds) 9 (check (too_large rounds (topology m)) 10 0))) e
      ∙ sym (mesh_then m _)

  module _ (a : Accepted m) where
    -- check 9
    pub planned_rounds : 8 < rounds → Planned m rounds (Err TooManyRounds)
    planned_rounds h = sym (accepted_passes m a _ ∙ rw (lt-ltb 8 rounds h))

    module _ (few : rounds ≤ 8) (s f : Sizes) (es : s ≡ sizes (topology m)) (ef : f ≡ sizes_after rounds s) where
      -- the finished counts as the code works them out
      counts : counts_in f ≡ finished_counts rounds (topology m)
      unfolding finished_counts
      counts = ap counts_in (ef ∙ ap (sizes_after rounds) es)

      -- check 10
      pub planned_large : out_of_range (counts_in f) ≡ true → Planned m rounds (Err ResultTooLarge)
      unfolding too_large
      planned_large h = sym (accepted_passes m a _ ∙ rw (le-ltb 8 rounds few, ← counts, h))

      pub planned : out_of_range (counts_in f) ≡ false → Planned m rounds (Ok (record { start = s; finished = f }))
      unfolding too_large
      planned h = record {
        passes = accepted_passes m a _ ∙ rw (le-ltb 8 rounds few, ← counts, h);
        start = es;
        finished = ef ∙ ap (sizes_after rounds) es;
      }

-- ---- its answer

-- a refusal's answer has no counts but zeros
pub same_answer : (n : ℕ) (c d : Counts) → (n ≡ 0 → c ≡ d) → counts_answer n c ≡ counts_answer n d
same_answer zero c d h = ap (counts_answer 0) (h refl)
same_answer (suc n) c d h = refl

-- counts in range fit 32 bits
pub range_narrow : (s : Sizes) → InRange (counts_in s) → Narrow s
unfolding counts_in
range_narrow s r = record { vertices = omega (arith, r.vertices); hexes = omega (arith, r.hexes); quads = omega (arith, r.quads); segments = omega (arith, r.segments); points = omega (arith, r.points) }

module _ {m : Mesh} {rounds : ℕ} {p : Growth} (e : Sized m rounds p) where
  pub plan_passed : Passed m rounds
  plan_passed = rounds_pass m rounds e.passes

  pub plan_counts : counts_in p.finished ≡ finished_counts rounds (topology m)
  unfolding finished_counts
  plan_counts = ap counts_in e.finished

  pub plan_in_range : InRange (counts_in p.finished)
  unfolding too_large
  plan_in_range = subst InRange (sym plan_counts) (in_range_lem _ plan_passed.small)

  pub plan_narrow : Narrow p.finished
  plan_narrow = range_narrow p.finished plan_in_range

  pub plan_answer : (c : Counts) → c ≡ counts_in p.finished → counts_answer_of (Ok c) ≡ finished_answer m rounds
  unfolding finished_answer
  plan_answer c f = ap (counts_answer 0) (f ∙ plan_counts) ∙ sym (ap (λ (n : ℕ). counts_answer n (finished_counts rounds (topology m))) e.passes)

pub plan_refused : (m : Mesh) (rounds : ℕ) (r : Refusal) → Planned m rounds (Err r) → counts_answer_of (Err r) ≡ finished_answer m rounds
unfolding finished_answer
plan_refused m rounds r e = sym (refused_counts r (finished_counts rounds (topology m))) ∙ ap (λ (n : ℕ). counts_answer n (finished_counts rounds (topology m))) e
