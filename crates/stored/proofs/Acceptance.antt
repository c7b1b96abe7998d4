-- What an accepted file and an accepted mesh are known to be, and that what is so is accepted.
use Prim.Native.Nat.{ℕ, zero, suc, ◌%◌, ◌^◌, ◌≤◌, ◌<◌}
use mathlib.Core.Path.{◌≡◌, refl, sym, ap, ap₂, ◌∙◌}
use mathlib.Core.Bool.{Bool, true, false, not}
use mathlib.Core.List.{List}
use native.Mathlib.Omega.{arith}
use lib.ListN.{length}
use lib.Dec.{ltb, eqb}
use borrow.Author.Tests.{ltb-false, le-ltb, eqb-true, eq-eqb, not-false}
use Rattle.std.specs.Prelude.{Ok, Err}
use Rattle.rules.specs.declared.Counts.{Counts}
use Rattle.rules.specs.declared.CountsAnswer.{CountsAnswer}
use Rattle.rules.specs.declared.Refusal.{Refusal}
use Rattle.rules.specs.Answers.{number_of, counts_answer_of}
use Rattle.rules.proofs.Named.{number_is_suc, refused_counts}
use Rattle.rules.specs.Lists.{any}
use Rattle.rules.specs.Mesh.{Mesh, topology}
use Rattle.rules.specs.Counts.{counts_of, out_of_range, fewer}
use Rattle.rules.specs.Refusals.{check, partial_entry, count_out_of_range, outside, coordinate_out_of_range, corner_out_of_range, table_checks}
use Rattle.rules.specs.EntryPoints.{counts_answer, result_buffer, result_tables}
use Rattle.rules.specs.Bits.{number, bytes_for, filling}
use Rattle.rules.specs.StoredForm.{header_of, index_width, layout, stored_mesh, header_cut, unknown_form, wrong_width, wrong_length, spare_bits, header_checks, reading_refusal}
use Rattle.checks.proofs.Passed.{TablesPass, tables_pass}
use Rattle.stored.specs.Form.{header_for}
use Rattle.stored.specs.Reading.{whole_header_checks, body_checks, file_checks}

-- ---- checks in a row

-- a check that gives no refusal passes, and so do the later ones
passes : (b : Bool) (n later : ℕ) → 0 < n → check b n later ≡ 0 → (b ≡ false) × (later ≡ 0)
passes true n later h e = absurd (omega arith)
passes false n later h e = (refl, e)

-- the first refusal of a row, or what the later checks say
abbrev pub or_later : ℕ → ℕ → ℕ
or_later zero later = later
or_later (suc n) later = suc n

three_checks : (a b c : Bool) (x y z later : ℕ)
    → check a (suc x) (check b (suc y) (check c (suc z) later)) ≡ or_later (check a (suc x) (check b (suc y) (check c (suc z) 0))) later
three_checks true b c x y z later = refl
three_checks false true c x y z later = refl
three_checks false false true x y z later = refl
three_checks false false false x y z later = refl

pub first_passes : (n later : ℕ) → or_later n later ≡ 0 → n ≡ 0
first_passes zero later e = refl
first_passes (suc n) later e = absurd (omega arith)

-- rows of checks, one behind another
then_later : (a b later : ℕ) → or_later a (or_later b later) ≡ or_later (or_later a b) later
then_later zero b later = refl
then_later (suc a) b later = refl

counts_later : (s : List ℕ) (later : ℕ) → header_checks s later ≡ or_later (header_checks s 0) later
counts_later s later = three_checks (header_cut s) (unknown_form s) (out_of_range (header_of s).counts) 12 13 1 later

-- one check, and what the later ones say
check_later : (b : Bool) (n later : ℕ) → check b (suc n) later ≡ or_later (check b (suc n) 0) later
check_later true n later = refl
check_later false n later = refl

pub whole_header : (s : List ℕ) (later : ℕ) → whole_header_checks s later ≡ or_later (header_checks s 0) (or_later (check (wrong_width s) 15 0) later)
unfolding whole_header_checks
whole_header s later = counts_later s _ ∙ ap (or_later (header_checks s 0)) (check_later (wrong_width s) 14 later)

header_later : (s : List ℕ) (later : ℕ) → whole_header_checks s later ≡ or_later (whole_header_checks s 0) later
unfolding whole_header_checks
header_later s later =
    whole_header s later ∙ then_later (header_checks s 0) (check (wrong_width s) 15 0) later
    ∙ ap (λ (n : ℕ). or_later n later) (sym (counts_later s (check (wrong_width s) 15 0)))

body_later : (s : List ℕ) (later : ℕ) → body_checks s later ≡ or_later (body_checks s 0) later
unfolding body_checks
body_later s later = three_checks (wrong_length s) (spare_bits s) (corner_out_of_range (topology (stored_mesh s))) 12 15 3 later

pub file_later : (s : List ℕ) (later : ℕ) → file_checks s later ≡ or_later (file_checks s 0) later
unfolding file_checks
file_later s later =
    rw (header_later s (body_checks s later), header_later s (body_checks s 0), body_later s later)
    (then_later (whole_header_checks s 0) (body_checks s 0) later)

pub reading_later : (s : List ℕ) (lent : Counts) → reading_refusal s lent ≡ or_later (file_checks s 0) (check (fewer lent (header_of s).counts) 11 0)
unfolding reading_refusal file_checks whole_header_checks body_checks
reading_later s lent = file_later s (check (fewer lent (header_of s).counts) 11 0)

-- ---- results

-- a result whose answer is known tells the refusal and the counts
pub counts_refusal : (n : ℕ) (c : Counts) → (counts_answer n c).refusal ≡ n
counts_refusal zero c = refl
counts_refusal (suc n) c = refl

pub refusal_told : (n : ℕ) (c : Counts) (r : Refusal) → counts_answer_of (Err r) ≡ counts_answer n c → n ≡ number_of r
refusal_told n c r e = sym (counts_refusal n c) ∙ ap (λ (x : CountsAnswer). x.refusal) (sym e)

pub counts_told : (n : ℕ) (c d : Counts) → counts_answer_of (Ok d) ≡ counts_answer n c → (n ≡ 0) × (c ≡ d)
counts_told zero c d e = (refl, ap (λ (x : CountsAnswer). x.counts) (sym e))
counts_told (suc n) c d e = absurd (omega (arith, ap (λ (x : CountsAnswer). x.refusal) e))

-- and back
pub refused : (n : ℕ) (c : Counts) (r : Refusal) → n ≡ number_of r → counts_answer_of (Err r) ≡ counts_answer n c
refused n c r e = sym (ap (λ (k : ℕ). counts_answer k c) e ∙ refused_counts r c)

pub answered : (n : ℕ) (c d : Counts) → n ≡ 0 → c ≡ d → counts_answer_of (Ok d) ≡ counts_answer n c
answered n c d e h = sym (ap₂ counts_answer e h)

-- a refusal stays, whatever later checks say
pub refusal_stays : (n later : ℕ) (r : Refusal) → n ≡ number_of r → or_later n later ≡ number_of r
refusal_stays zero later r e = let k = (number_is_suc r).1 in absurd (omega arith)
refusal_stays (suc n) later r e = e

-- and changes no table, nor a buffer
pub refused_tables : (n : ℕ) (r : Refusal) (old new : Mesh) → n ≡ number_of r → result_tables n old new ≡ old
unfolding result_tables
refused_tables zero r old new e = let k = (number_is_suc r).1 in absurd (omega arith)
refused_tables (suc n) r old new e = refl

pub refused_buffer : (n : ℕ) (r : Refusal) (old new : List ℕ) → n ≡ number_of r → result_buffer n old new ≡ old
refused_buffer zero r old new e = let k = (number_is_suc r).1 in absurd (omega arith)
refused_buffer (suc n) r old new e = refl

-- ---- an accepted file

pub record HeaderAccepted (s : List ℕ) : Type 0 where
  pub long : 13 ≤ length s
  pub range : out_of_range (header_of s).counts ≡ false
  pub header : header_of s ≡ header_for (header_of s).counts

pub record BodyAccepted (s : List ℕ) : Type 0 where
  pub whole : length s ≡ bytes_for (layout (header_of s)).end
  pub zeros : number s % 2 ^ filling (layout (header_of s)).end ≡ 0
  pub corners : corner_out_of_range (topology (stored_mesh s)) ≡ false

pub record Accepted (s : List ℕ) : Type 0 where
  pub head : HeaderAccepted s
  pub body : BodyAccepted s

-- what the checks without the width tell
pub record CountsAccepted (s : List ℕ) : Type 0 where
  pub long : 13 ≤ length s
  pub form : (header_of s).form ≡ 1
  pub range : out_of_range (header_of s).counts ≡ false

pub counts_accepted : (s : List ℕ) (later : ℕ) → header_checks s later ≡ 0 → CountsAccepted s × (later ≡ 0)
unfolding header_cut unknown_form
counts_accepted s later e =
    let h = header_of s in
    let a = passes (ltb (length s) 13) 13 _ (omega arith) e in
    let b = passes (not (eqb h.form 1)) 14 _ (omega arith) a.1 in
    let c = passes (out_of_range h.counts) 2 later (omega arith) b.1 in
    (record { long = ltb-false (length s) 13 a.0; form = eqb-true h.form 1 (not-false _ b.0); range = c.0 }, c.1)

pub header_accepted : (s : List ℕ) (later : ℕ) → whole_header_checks s later ≡ 0 → HeaderAccepted s × (later ≡ 0)
unfolding whole_header_checks wrong_width
header_accepted s later e =
    let h = header_of s in
    let a = counts_accepted s _ e in
    let b = passes (not (eqb h.width (index_width h.counts))) 15 later (omega arith) a.1 in
    let width : h.width ≡ index_width h.counts = eqb-true h.width (index_width h.counts) (not-false _ b.0) in
    (record { long = a.0.long; range = a.0.range; header = λ i. record { form = a.0.form i; width = width i; counts = h.counts } }, b.1)

body_accepted : (s : List ℕ) (later : ℕ) → body_checks s later ≡ 0 → BodyAccepted s × (later ≡ 0)
unfolding body_checks wrong_length spare_bits
body_accepted s later e =
    let end = (layout (header_of s)).end in
    let a = passes (not (eqb (length s) (bytes_for end))) 13 _ (omega arith) e in
    let b = passes (not (eqb (number s % 2 ^ filling end) 0)) 16 _ (omega arith) a.1 in
    let c = passes (corner_out_of_range (topology (stored_mesh s))) 4 later (omega arith) b.1 in (
      record {
        whole = eqb-true (length s) (bytes_for end) (not-false _ a.0);
        zeros = eqb-true (number s % 2 ^ filling end) 0 (not-false _ b.0);
        corners = c.0;
      },
      c.1,
    )

pub accepted : (s : List ℕ) (later : ℕ) → file_checks s later ≡ 0 → Accepted s × (later ≡ 0)
unfolding file_checks
accepted s later e =
    let a = header_accepted s (body_checks s later) e in
    let b = body_accepted s later a.1 in
    (record { head = a.0; body = b.0 }, b.1)

pub accepting : (s : List ℕ) (later : ℕ) → Accepted s → file_checks s later ≡ later
unfolding file_checks header_cut whole_header_checks body_checks unknown_form wrong_width wrong_length spare_bits
accepting s later a =
    let h = header_of s in
    let end = (layout h).end in
    rw (
      le-ltb (length s) 13 a.head.long,
      eq-eqb h.form 1 (ap (λ x. x.form) a.head.header),
      a.head.range,
      eq-eqb h.width (index_width h.counts) (ap (λ x. x.width) a.head.header),
      eq-eqb (length s) (bytes_for end) a.body.whole,
      eq-eqb (number s % 2 ^ filling end) 0 a.body.zeros,
      a.body.corners,
    )

-- reading accepts a file if the lent tables have room
pub reading_accepts : (s : List ℕ) (lent : Counts) → Accepted s → fewer lent (header_of s).counts ≡ false → reading_refusal s lent ≡ 0
reading_accepts s lent a e = reading_later s lent ∙ rw (accepting s 0 a, e)

pub reading_accepted : (s : List ℕ) (lent : Counts) → reading_refusal s lent ≡ 0 → Accepted s × (fewer lent (header_of s).counts ≡ false)
unfolding reading_refusal file_checks whole_header_checks body_checks
reading_accepted s lent e =
    let a = accepted s (check (fewer lent (header_of s).counts) 11 0) e in
    (a.0, (passes (fewer lent (header_of s).counts) 11 0 (omega arith) a.1).0)

-- ---- an accepted mesh: `TablesPass`

pub tables_later : (m : Mesh) (later : ℕ) → table_checks m later ≡ or_later (table_checks m 0) later
unfolding table_checks
tables_later m later = go (partial_entry m) (count_out_of_range m) (coordinate_out_of_range m) (corner_out_of_range (topology m))
  where
    go : (a b c d : Bool) → check a 1 (check b 2 (check c 3 (check d 4 later))) ≡ or_later (check a 1 (check b 2 (check c 3 (check d 4 0)))) later
    go true b c d = refl
    go false true c d = refl
    go false false true d = refl
    go false false false true = refl
    go false false false false = refl

pub mesh_passes : (m : Mesh) (later : ℕ) → table_checks m later ≡ 0 → TablesPass m
mesh_passes m later e = tables_pass m (first_passes (table_checks m 0) later (sym (tables_later m later) ∙ e))

pub passing : (m : Mesh) (later : ℕ) → TablesPass m → table_checks m later ≡ later
unfolding table_checks
passing m later p = rw (p.whole, p.counts, p.inside, p.known)

pub pass_range : (m : Mesh) → TablesPass m → out_of_range (counts_of m) ≡ false
unfolding count_out_of_range
pass_range m p = p.counts

pub pass_near : (m : Mesh) → TablesPass m → any outside m.vertices ≡ false
unfolding coordinate_out_of_range
pass_near m p = p.inside
