-- What reading and writing return, case by case: the answer, and what lent memory holds.
use Prim.Native.Nat.{ℕ, zero, suc, ◌≤◌, ◌<◌}
use mathlib.Core.Path.{◌≡◌, refl, sym, ap, ap₂, subst, ◌∙◌}
use mathlib.Core.Bool.{Bool, true, false}
use mathlib.Core.List.{List}
use lib.ListN.{length, take}
use borrow.Author.Tests.{lt-ltb, le-ltb}
use Rattle.std.specs.Prelude.{Result, Ok, Err}
use Rattle.rules.specs.declared.Counts.{Counts}
use Rattle.rules.specs.declared.Refusal.{Refusal}
use Rattle.rules.specs.declared.Refusal.TheVariants.{ShortBuffer}
use Rattle.rules.specs.Answers.{number_of, counts_answer_of, count_answer_of}
use Rattle.rules.proofs.Named.{refused_count}
use Rattle.rules.specs.declared.CountsAnswer.{CountsAnswer}
use Rattle.rules.specs.declared.CountAnswer.{CountAnswer}
use Rattle.rules.specs.Lists.{overwritten}
use Rattle.rules.specs.Mesh.{Mesh}
use Rattle.rules.specs.Counts.{counts_of, fewer}
use Rattle.rules.specs.Refusals.{check, table_checks}
use Rattle.rules.specs.EntryPoints.{counts_answer, count_answer, result_buffer, result_tables, front}
use Rattle.rules.specs.StoredForm.{stored_form, header_of, stored_mesh, reading_refusal, reading_answer, reading_output, writing_refusal, writing_answer, writing_output}
use Rattle.checks.proofs.Passed.{TablesPass}
use Rattle.bits.specs.Writing.{Bytes}
use Rattle.stored.specs.Reading.{file_checks}
use Rattle.stored.proofs.Acceptance.{or_later, reading_later, counts_refusal, refusal_told, counts_told, refused, answered, refusal_stays, refused_tables, refused_buffer, reading_accepted, tables_later, mesh_passes, passing}
use Rattle.stored.proofs.Form.{Sized, stored_under, under_sized, begins, front_result}
use Rattle.stored.proofs.Inverse.{writes_back, reads_back}

-- ---- reading

module _ (s : List ℕ) (t : Mesh) where
  -- the answer and the tables where the result is known
  pub record Read (r : Result Counts Refusal) (after : Mesh) : Type 0 where
    pub answer : counts_answer_of r ≡ reading_answer s t
    pub output : after ≡ reading_output s t

  -- a refusal changes no table
  unread : (r : Refusal) → reading_refusal s (counts_of t) ≡ number_of r → Read (Err r) t
  unfolding reading_answer reading_output
  unread r e = record {
    answer = refused (reading_refusal s (counts_of t)) (header_of s).counts r e;
    output = sym (refused_tables (reading_refusal s (counts_of t)) r t (stored_mesh s) e);
  }

  -- by the checks of the file
  pub file_refused : (r : Refusal) → counts_answer_of (Err r) ≡ counts_answer (file_checks s 0) (header_of s).counts → Read (Err r) t
  file_refused r e =
      unread r (reading_later s (counts_of t) ∙ refusal_stays (file_checks s 0) _ r (refusal_told (file_checks s 0) (header_of s).counts r e))

  module _ (c : Counts) (e : counts_answer_of (Ok c) ≡ counts_answer (file_checks s 0) (header_of s).counts) where
    counts_read : (header_of s).counts ≡ c
    counts_read = (counts_told (file_checks s 0) (header_of s).counts c e).1

    -- all that is left is check 11
    only_room : (b : Bool) → fewer (counts_of t) c ≡ b → reading_refusal s (counts_of t) ≡ check b 11 0
    only_room b h =
        reading_later s (counts_of t)
        ∙ ap₂ (λ (k : ℕ) (x : Bool). or_later k (check x 11 0)) (counts_told (file_checks s 0) (header_of s).counts c e).0 (ap (fewer (counts_of t)) counts_read ∙ h)

    -- by the lent tables
    pub tables_refused : fewer (counts_of t) c ≡ true → Read (Err ShortBuffer) t
    tables_refused h = unread ShortBuffer (only_room true h)

    pub accepted_reading : fewer (counts_of t) c ≡ false → reading_refusal s (counts_of t) ≡ 0
    accepted_reading h = only_room false h

    pub accepted_answer : fewer (counts_of t) c ≡ false → counts_answer_of (Ok c) ≡ reading_answer s t
    unfolding reading_answer
    accepted_answer h = answered (reading_refusal s (counts_of t)) (header_of s).counts c (only_room false h) counts_read

    pub accepted_output : fewer (counts_of t) c ≡ false → result_tables 0 t (stored_mesh s) ≡ reading_output s t
    unfolding reading_output
    accepted_output h = ap (λ (k : ℕ). result_tables k t (stored_mesh s)) (sym (only_room false h))

    pub tables_read : fewer (counts_of t) c ≡ false → Read (Ok c) (result_tables 0 t (stored_mesh s))
    tables_read h = record { answer = accepted_answer h; output = accepted_output h }

  -- The mesh that stands in the tables after reading, written again, gives the same bytes.
  pub promised_bytes : (r : CountsAnswer) (after : Mesh) → r ≡ reading_answer s t → after ≡ reading_output s t → Bytes s → r.refusal ≡ 0
      → let m = front r.counts after in (writing_refusal m (length s) ≡ 0) × (stored_form m ≡ s)
  unfolding reading_answer reading_output
  promised_bytes r after e o bytes z =
      let n = reading_refusal s (counts_of t) in
      let c = (header_of s).counts in
      let none : n ≡ 0 = sym (counts_refusal n c) ∙ ap (λ (x : CountsAnswer). x.refusal) (sym e) ∙ z in
      let counts : r.counts ≡ c = ap (λ (x : CountsAnswer). x.counts) (e ∙ ap (λ (k : ℕ). counts_answer k c) none) in
      let tables : after ≡ result_tables 0 t (stored_mesh s) = o ∙ ap (λ (k : ℕ). result_tables k t (stored_mesh s)) none in
      let sized : Sized (header_of s) (stored_mesh s) = subst (Sized (header_of s)) (sym (stored_under s)) (under_sized s (header_of s)) in
      let same : front r.counts after ≡ stored_mesh s = ap₂ front counts tables ∙ front_result (header_of s) t (stored_mesh s) sized in
      subst (λ (m : Mesh). (writing_refusal m (length s) ≡ 0) × (stored_form m ≡ s)) (sym same) (writes_back s (reading_accepted s (counts_of t) none).0 bytes)

-- ---- writing

module _ (m : Mesh) (d : List ℕ) where
  -- the answer and the buffer where the result is known
  pub record Written (r : Result ℕ Refusal) (after : List ℕ) : Type 0 where
    pub answer : count_answer_of r ≡ writing_answer m d
    pub output : after ≡ writing_output m d

  unwritten : (r : Refusal) → writing_refusal m (length d) ≡ number_of r → Written (Err r) d
  unfolding writing_answer writing_output
  unwritten r e = record {
    answer = sym (ap (λ (k : ℕ). count_answer k (length (stored_form m))) e ∙ refused_count r (length (stored_form m)));
    output = sym (refused_buffer (writing_refusal m (length d)) r d (stored_form m) e);
  }

  -- by the checks of the mesh
  pub mesh_refused : (r : Refusal) → number_of r ≡ table_checks m 0 → Written (Err r) d
  unfolding writing_refusal
  mesh_refused r e = unwritten r (tables_later m _ ∙ refusal_stays (table_checks m 0) _ r (sym e))

  -- by the lent buffer
  pub buffer_refused : TablesPass m → length d < length (stored_form m) → Written (Err ShortBuffer) d
  unfolding writing_refusal
  buffer_refused w l = unwritten ShortBuffer (passing m _ w ∙ rw (lt-ltb (length d) (length (stored_form m)) l))

  pub accepted_writing : TablesPass m → length (stored_form m) ≤ length d
      → Written (Ok (length (stored_form m))) (overwritten d (stored_form m))
  unfolding writing_refusal writing_answer writing_output
  accepted_writing w l =
      let none : writing_refusal m (length d) ≡ 0 = passing m _ w ∙ rw (le-ltb (length d) (length (stored_form m)) l) in
      record {
        answer = ap (λ (k : ℕ). count_answer k (length (stored_form m))) (sym none);
        output = ap (λ (k : ℕ). result_buffer k d (stored_form m)) (sym none);
      }

  count_refusal : (n k : ℕ) → (count_answer n k).refusal ≡ n
  count_refusal zero k = refl
  count_refusal (suc n) k = refl

  -- The bytes that stand in the buffer after writing are read back as the same mesh.
  pub promised_mesh : (r : CountAnswer) (after : List ℕ) → r ≡ writing_answer m d → after ≡ writing_output m d → r.refusal ≡ 0
      → let s = take r.count after in (reading_refusal s (counts_of m) ≡ 0) × (stored_mesh s ≡ m)
  unfolding writing_answer writing_output writing_refusal
  promised_mesh r after e o z =
      let n = writing_refusal m (length d) in
      let bytes = stored_form m in
      let none : n ≡ 0 = sym (count_refusal n (length bytes)) ∙ ap (λ (x : CountAnswer). x.refusal) (sym e) ∙ z in
      let count : r.count ≡ length bytes = ap (λ (x : CountAnswer). x.count) (e ∙ ap (λ (k : ℕ). count_answer k (length bytes)) none) in
      let buffer : after ≡ overwritten d bytes = o ∙ ap (λ (k : ℕ). result_buffer k d bytes) none in
      let same : take r.count after ≡ bytes = ap₂ take count buffer ∙ begins (length bytes) d bytes refl in
      subst (λ (s : List ℕ). (reading_refusal s (counts_of m) ≡ 0) × (stored_mesh s ≡ m)) (sym same) (reads_back m (mesh_passes m _ none))
