-- What is answered of a refusal by its name is what the rules answer of its number. Assumes nothing.
use Rattle.std.proofs.Common.{◌≡◌, ℕ, zero, suc, refl, sym, arith}
use Rattle.std.specs.Prelude.{Err}
use Rattle.rules.specs.declared.Counts.{Counts}
use Rattle.rules.specs.declared.CountsAnswer.{CountsAnswer}
use Rattle.rules.specs.declared.Refusal.{Refusal}
use Rattle.rules.specs.declared.Refusal.TheVariants.{PartialEntry, CountOutOfRange, CoordinateOutOfRange, CornerOutOfRange, RepeatedCorner, DuplicateCell, MismatchedFace, IsolatedVertex, TooManyRounds, ResultTooLarge, ShortBuffer, WrongFileLength, UnknownForm, WrongIndexWidth, NonzeroPadding}
use Rattle.rules.specs.Answers.{number_of, counts_answer_of, count_answer_of}
use Rattle.rules.specs.Counts.{no_counts}
use Rattle.rules.specs.EntryPoints.{counts_answer, count_answer}

-- a refusal's answer has no counts but zeros
pub refused_answer : (n : ℕ) (c : Counts) → (n ≡ 0 → ⊥) → ◌≡◌ {A = CountsAnswer} (record { refusal = n; counts = no_counts }) (counts_answer n c)
refused_answer zero c h = absurd (h refl)
refused_answer (suc n) c h = refl

-- no refusal has the number 0
pub number_is_suc : (r : Refusal) → (k : ℕ) × (number_of r ≡ suc k)
number_is_suc PartialEntry = (0, refl)
number_is_suc CountOutOfRange = (1, refl)
number_is_suc CoordinateOutOfRange = (2, refl)
number_is_suc CornerOutOfRange = (3, refl)
number_is_suc RepeatedCorner = (4, refl)
number_is_suc DuplicateCell = (5, refl)
number_is_suc MismatchedFace = (6, refl)
number_is_suc IsolatedVertex = (7, refl)
number_is_suc TooManyRounds = (8, refl)
number_is_suc ResultTooLarge = (9, refl)
number_is_suc ShortBuffer = (10, refl)
number_is_suc WrongFileLength = (12, refl)
number_is_suc UnknownForm = (13, refl)
number_is_suc WrongIndexWidth = (14, refl)
number_is_suc NonzeroPadding = (15, refl)

pub refused_counts : (r : Refusal) (c : Counts) → counts_answer (number_of r) c ≡ counts_answer_of (Err r)
refused_counts r c =
    let e = (number_is_suc r).1 in
    sym (refused_answer (number_of r) c (λ z. omega (arith, e, z)))

pub refused_count : (r : Refusal) (n : ℕ) → count_answer (number_of r) n ≡ count_answer_of (Err r)
refused_count r n = let e = (number_is_suc r).1 in rw e
