-- The fields that are read of a header make the checks 14 and 2 (`header_read`) behind 13 (`header_short`),
-- and the field of the width makes check 15 (`width_read`).
use Prim.Native.Nat.{ℕ, ◌≤◌, ◌<◌}
use mathlib.Core.Path.{◌≡◌, ap}
use mathlib.Core.Bool.{true, false, not}
use mathlib.Core.List.{List}
use lib.ListN.{length}
use lib.Dec.{eqb}
use borrow.Author.Tests.{lt-ltb, le-ltb, eq-eqb, ne_eqb}
use Rattle.std.specs.Prelude.{Ok, Err}
use Rattle.rules.specs.declared.Counts.{Counts}
use Rattle.rules.specs.declared.Refusal.TheVariants.{CountOutOfRange, WrongFileLength, UnknownForm}
use Rattle.rules.specs.Answers.{counts_answer_of}
use Rattle.rules.specs.Counts.{out_of_range}
use Rattle.rules.specs.EntryPoints.{counts_answer}
use Rattle.rules.specs.Refusals.{check}
use Rattle.rules.specs.Bits.{field_at}
use Rattle.rules.specs.StoredForm.{header_of, index_width, header_cut, unknown_form, wrong_width, header_checks, header_answer}

-- the counts that are read
abbrev pub counts_read : List ℕ → Counts
counts_read s = record {
  vertices = field_at s 9 20;
  hexes = field_at s 29 18;
  quads = field_at s 47 18;
  segments = field_at s 65 18;
  points = field_at s 83 18;
}

-- five numbers that are read
pub counts_same : (s : List ℕ) {v h q g p : ℕ} → v ≡ field_at s 9 20 → h ≡ field_at s 29 18 → q ≡ field_at s 47 18 → g ≡ field_at s 65 18
    → p ≡ field_at s 83 18 → ◌≡◌ {A = Counts} (record { vertices = v; hexes = h; quads = q; segments = g; points = p }) (counts_read s)
counts_same s a b c d e = λ i. record { vertices = a i; hexes = b i; quads = c i; segments = d i; points = e i }

-- ---- 13, 14 and 2

pub header_short : (s : List ℕ) → length s < 13 → counts_answer_of (Err WrongFileLength) ≡ header_answer s
unfolding header_answer header_cut
header_short s h = rw (lt-ltb (length s) 13 h)

-- of a header that is long enough, by its fields
pub header_read : (s : List ℕ) → 13 ≤ length s → header_checks s 0 ≡ check (not (eqb (field_at s 0 4) 1)) 14 (check (out_of_range (counts_read s)) 2 0)
unfolding header_cut unknown_form header_of
header_read s h = rw (le-ltb (length s) 13 h)

answer_read : (s : List ℕ) → 13 ≤ length s
    → header_answer s ≡ counts_answer (check (not (eqb (field_at s 0 4) 1)) 14 (check (out_of_range (counts_read s)) 2 0)) (counts_read s)
unfolding header_answer header_of
answer_read s h = ap (λ (n : ℕ). counts_answer n (counts_read s)) (header_read s h)

pub header_form : (s : List ℕ) → 13 ≤ length s → (field_at s 0 4 ≡ 1 → ⊥) → counts_answer_of (Err UnknownForm) ≡ header_answer s
header_form s h ne = rw (answer_read s h, ne_eqb (field_at s 0 4) 1 ne)

module _ (s : List ℕ) (h : 13 ≤ length s) (form : field_at s 0 4 ≡ 1) where
  pub header_range : out_of_range (counts_read s) ≡ true → counts_answer_of (Err CountOutOfRange) ≡ header_answer s
  header_range e = rw (answer_read s h, eq-eqb (field_at s 0 4) 1 form, e)

  pub header_passed : out_of_range (counts_read s) ≡ false → counts_answer_of (Ok (counts_read s)) ≡ header_answer s
  header_passed e = rw (answer_read s h, eq-eqb (field_at s 0 4) 1 form, e)

-- ---- 15

pub width_read : (s : List ℕ) (c : Counts) → (header_of s).counts ≡ c
    → check (wrong_width s) 15 0 ≡ check (not (eqb (field_at s 4 5) (index_width c))) 15 0
unfolding wrong_width header_of
width_read s c e = ap (λ (x : Counts). check (not (eqb (field_at s 4 5) (index_width x))) 15 0) e

module _ (s : List ℕ) (c : Counts) (e : (header_of s).counts ≡ c) where
  pub width_wrong : (field_at s 4 5 ≡ index_width c → ⊥) → 15 ≡ check (wrong_width s) 15 0
  width_wrong ne = rw (width_read s c e, ne_eqb (field_at s 4 5) (index_width c) ne)

  pub width_right : field_at s 4 5 ≡ index_width c → 0 ≡ check (wrong_width s) 15 0
  width_right h = rw (width_read s c e, eq-eqb (field_at s 4 5) (index_width c) h)
