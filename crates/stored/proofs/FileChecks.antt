-- The checks of a file's parts in a row are the file's: the first refusal, or the counts.
use Prim.Native.Nat.{ℕ}
use mathlib.Core.Path.{◌≡◌, sym, ap, ap₂, ◌∙◌}
use mathlib.Core.List.{List}
use Rattle.std.specs.Prelude.{Ok, Err}
use Rattle.rules.specs.declared.Counts.{Counts}
use Rattle.rules.specs.declared.Refusal.{Refusal}
use Rattle.rules.specs.Answers.{number_of, counts_answer_of}
use Rattle.rules.specs.EntryPoints.{counts_answer}
use Rattle.rules.specs.Refusals.{check}
use Rattle.rules.specs.StoredForm.{header_of, wrong_width, header_checks, header_answer}
use Rattle.stored.specs.declared.header.HeadedFile.{HeadedFile}
use Rattle.stored.specs.Reading.{whole_header_checks, body_checks, file_checks}
use Rattle.stored.proofs.Acceptance.{or_later, first_passes, whole_header, refusal_told, counts_told, refused, answered, refusal_stays}

module _ (s : List ℕ) where
  in_parts : file_checks s 0 ≡ or_later (header_checks s 0) (or_later (check (wrong_width s) 15 0) (body_checks s 0))
  unfolding file_checks
  in_parts = whole_header s (body_checks s 0)

  pub counts_refused : (r : Refusal) → counts_answer_of (Err r) ≡ header_answer s
      → counts_answer_of (Err r) ≡ counts_answer (file_checks s 0) (header_of s).counts
  unfolding header_answer
  counts_refused r e =
      let c = (header_of s).counts in
      refused (file_checks s 0) c r (in_parts ∙ refusal_stays (header_checks s 0) _ r (refusal_told (header_checks s 0) c r e))

  module _ (c : Counts) (e : counts_answer_of (Ok c) ≡ header_answer s) where
    -- the counts were read
    counts_passed : (header_checks s 0 ≡ 0) × ((header_of s).counts ≡ c)
    unfolding header_answer
    counts_passed = counts_told (header_checks s 0) (header_of s).counts c e

    pub width_refused : (r : Refusal) → number_of r ≡ check (wrong_width s) 15 0
        → counts_answer_of (Err r) ≡ counts_answer (file_checks s 0) (header_of s).counts
    width_refused r h =
        refused (file_checks s 0) (header_of s).counts r
        (in_parts ∙ ap (λ (n : ℕ). or_later n (or_later (check (wrong_width s) 15 0) (body_checks s 0))) counts_passed.0
        ∙ refusal_stays (check (wrong_width s) 15 0) _ r (sym h))

    module _ (w : 0 ≡ check (wrong_width s) 15 0) where
      -- the whole header
      pub header_passed : whole_header_checks s 0 ≡ 0
      header_passed = whole_header s 0 ∙ ap₂ (λ (a b : ℕ). or_later a (or_later b 0)) counts_passed.0 (sym w)

      -- what is left are the checks of the body
      only_body : file_checks s 0 ≡ body_checks s 0
      only_body = in_parts ∙ ap₂ (λ (a b : ℕ). or_later a (or_later b (body_checks s 0))) counts_passed.0 (sym w)

      pub body_refused : (r : Refusal) → number_of r ≡ body_checks s 0
          → counts_answer_of (Err r) ≡ counts_answer (file_checks s 0) (header_of s).counts
      body_refused r h = refused (file_checks s 0) (header_of s).counts r (only_body ∙ sym h)

      pub file_passed : 0 ≡ body_checks s 0 → counts_answer_of (Ok c) ≡ counts_answer (file_checks s 0) (header_of s).counts
      file_passed h = answered (file_checks s 0) (header_of s).counts c (only_body ∙ sym h) counts_passed.1

-- the header's own checks pass, and its counts are those that were read
pub headed : (f : HeadedFile) → (header_checks f.bytes.now 0 ≡ 0) × ((header_of f.bytes.now).counts ≡ f.counts)
headed f = counts_passed f.bytes.now f.counts f.passed

-- and back: of a file that passes all its checks
pub heads : (s : List ℕ) (c : Counts) → counts_answer_of (Ok c) ≡ counts_answer (file_checks s 0) (header_of s).counts
    → counts_answer_of (Ok c) ≡ header_answer s
unfolding header_answer
heads s c e =
    let t = counts_told (file_checks s 0) (header_of s).counts c e in
    answered (header_checks s 0) (header_of s).counts c (first_passes (header_checks s 0) _ (sym (in_parts s) ∙ t.0)) t.1
