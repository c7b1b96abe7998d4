-- The answer, of a mesh that is refused and of one that is counted. Assumes nothing.
use Rattle.std.proofs.Common.{◌≡◌, ℕ, sym, ap, ◌∙◌}
use Rattle.std.specs.Prelude.{Ok, Err}
use Rattle.rules.specs.declared.Refusal.{Refusal}
use Rattle.rules.specs.Answers.{number_of, count_answer_of}
use Rattle.rules.specs.Mesh.{Mesh, topology}
use Rattle.rules.specs.Refusals.{mesh_checks}
use Rattle.rules.specs.EntryPoints.{count_answer, irregular_count, irregular_answer}
use Rattle.rules.proofs.Named.{refused_count}

module _ (m : Mesh) where
  pub irregular_refused : (r : Refusal) → number_of r ≡ mesh_checks m 0 → count_answer_of (Err r) ≡ irregular_answer m
  unfolding irregular_answer
  irregular_refused r e = sym (refused_count r (irregular_count (topology m))) ∙ ap (λ (n : ℕ). count_answer n (irregular_count (topology m))) e

  pub counted_answer : mesh_checks m 0 ≡ 0 → (n : ℕ) → n ≡ irregular_count (topology m) → count_answer_of (Ok n) ≡ irregular_answer m
  unfolding irregular_answer
  counted_answer h n e = rw (h, e)
