-- Check 11 after the others: what acceptance tells of lent memory, and what the answer and the output tables then are. Assumes nothing.
use mathlib.Core.Path.{◌≡◌, refl, sym, ap, subst, ◌∙◌}
use mathlib.Core.Bool.{Bool, true, false, ◌||◌}
use mathlib.Core.List.{List}
use Prim.Native.Nat.{ℕ, zero, suc, ◌*◌, ◌/◌, ◌≤◌, ◌<◌}
use native.Mathlib.Nat.{div-lt_iff_lt-mul, mul_comm}
use native.Mathlib.Omega.{arith}
use borrow.Author.Tests.{ltb-true, ltb-false}
use lib.Dec.{ltb}
use lib.ListN.{length}
use Rattle.rules.specs.declared.Counts.{Counts}
use Rattle.rules.specs.declared.Sizes.{Sizes}
use Rattle.rules.specs.declared.Refusal.{Refusal}
use Rattle.rules.specs.Mesh.{Mesh, topology}
use Rattle.rules.specs.Averaging.{refined}
use Rattle.rules.specs.Counts.{sizes, sizes_after, counts_in, counts_of, finished_counts, fewer}
use Rattle.rules.specs.Answers.{number_of, counts_answer_of}
use Rattle.rules.specs.Refusals.{check}
use Rattle.rules.proofs.Named.{number_is_suc, refused_counts}
use Rattle.std.specs.Prelude.{Ok, Err}
use Rattle.rules.specs.EntryPoints.{Lent as Lengths, counts_answer, round_checks, result_tables, lent_by, short_for_refining, refining_refusal, refining_answer, refining_output}
use Rattle.rules.specs.Viewer.{and_then}
use Rattle.lists.proofs.Tests.{or_neither, false_together, is_false}
use Rattle.plan.specs.declared.Growth.{Growth}
use Rattle.plan.specs.Planned.{Sized}
use Rattle.plan.proofs.Refusals.{not_zero, first_refusal, rounds_then, Passed}
use Rattle.plan.proofs.Plans.{plan_passed, plan_counts}
use Rattle.rounds.specs.Front.{Room}
use Rattle.rounds.specs.declared.working.WorkingNumbers.{WorkingNumbers}
use Rattle.rounds.specs.Ready.{ReadyFor}
use Rattle.refine.specs.Lengths.{lengths}

-- ---- lent numbers

-- k numbers for each of v vertices, by a division
enough : (k n v : ℕ) → 0 < k → ltb (n / k) v ≡ ltb n (k * v)
enough k n v h =
    let i = div-lt_iff_lt-mul {k = k} {x = n} {y = v} h in
    false_together (ltb (n / k) v) (ltb n (k * v))
    (λ e. is_false (ltb n (k * v)) (λ y. absurd (clash (ltb-false (n / k) v e) (i.1 (rw (mul_comm v k) (ltb-true n (k * v) y))))))
    (λ e. is_false (ltb (n / k) v) (λ y. absurd (clash (ltb-false n (k * v) e) (rw (mul_comm v k) at (i.0 (ltb-true (n / k) v y))))))
  where
    clash : {a b : ℕ} → b ≤ a → a < b → ⊥
    clash p q = omega arith

-- check 11 as the code makes it
pub short_is : (l : Lengths) (c : Counts) {o w : Bool} → o ≡ fewer l.output c → w ≡ fewer l.working c → (o || (w || (ltb (l.words / 8) c.vertices || ltb (l.longs / 3) c.vertices))) ≡ short_for_refining l c
unfolding short_for_refining
short_is l c e f = rw (e, f, enough 8 l.words c.vertices (omega arith), enough 3 l.longs c.vertices (omega arith))

-- what is lent, as the code counts it
pub lent_is : (out work : Mesh) (words longs : List ℕ) (o w : Sizes) → counts_in o ≡ counts_of out → counts_in w ≡ counts_of work → lengths (record { output = o; working = w; words = length words; longs = length longs }) ≡ lent_by out work words longs
lent_is out work words longs o w p q = rw (p, q)

-- ---- what acceptance tells

-- places that are not fewer are room
room_of : (s : Sizes) (tables : Mesh) → fewer (counts_of tables) (counts_in s) ≡ false → Room s tables
unfolding fewer counts_of counts_in
room_of s tables h =
    let a = or_neither _ _ h in
    let b = or_neither _ _ a.1 in
    let c = or_neither _ _ b.1 in
    let d = or_neither _ _ c.1 in
    record {
      vertices = omega (arith, ltb-false (length tables.vertices / 3) s.vertices a.0);
      hexes = omega (arith, ltb-false (length tables.hexes / 8) s.hexes b.0);
      quads = omega (arith, ltb-false (length tables.quads / 4) s.quads c.0);
      segments = omega (arith, ltb-false (length tables.segments / 2) s.segments d.0);
      points = omega (arith, ltb-false (length tables.points / 1) s.points d.1);
    }

-- what check 11 leaves
module _ (m : Mesh) (rounds : ℕ) (out work : Mesh) (words longs : List ℕ) (passed : Passed m rounds) (long : short_for_refining (lent_by out work words longs) (finished_counts rounds (topology m)) ≡ false) where
  -- working numbers count by their length
  pub lent_ready : (s : Sizes) → s ≡ sizes (topology m) → (numbers : WorkingNumbers) → length numbers.words.now ≡ length words → length numbers.longs.now ≡ length longs → ReadyFor rounds m s out work numbers
  unfolding short_for_refining finished_counts counts_in
  lent_ready s e numbers w l =
      let a = or_neither _ _ long in
      let b = or_neither _ _ a.1 in
      let c = or_neither _ _ b.1 in
      subst (λ (z : Sizes). ReadyFor rounds m z out work numbers) (sym e)
      (record {
        accepted = passed.accepted;
        sized = refl;
        small = passed.small;
        room = room_of (sizes_after rounds (sizes (topology m))) out a.0;
        working_room = room_of (sizes_after rounds (sizes (topology m))) work b.0;
        enough_words = omega (arith, w, ltb-false (length words) _ c.0);
        enough_longs = omega (arith, l, ltb-false (length longs) _ c.1);
      })

-- ---- a decision

-- check 11 after the others
pub last_check : {n : ℕ} {b : Bool} (v : Bool) → n ≡ 0 → b ≡ v → check v 11 0 ≡ and_then n (check b 11 0)
last_check v e f = rw (e, f)

same_later : (n a b : ℕ) → (n ≡ 0 → a ≡ b) → and_then n a ≡ and_then n b
same_later zero a b h = h refl
same_later (suc n) a b h = refl

module _ (m : Mesh) (rounds : ℕ) (out work : Mesh) (words longs : List ℕ) where
  -- of counts that are the finished ones where checks 1 to 10 pass
  pub decided : (n : ℕ) (c : Counts) → n ≡ round_checks m rounds 0 → (n ≡ 0 → c ≡ finished_counts rounds (topology m))
      → refining_refusal m rounds (lent_by out work words longs) ≡ and_then n (check (short_for_refining (lent_by out work words longs) c) 11 0)
  unfolding refining_refusal
  decided n c e f =
      let short = λ (c : Counts). check (short_for_refining (lent_by out work words longs) c) 11 0 in
      rounds_then m rounds (short (finished_counts rounds (topology m)))
      ∙ ap (λ (k : ℕ). and_then k (short (finished_counts rounds (topology m)))) (sym e)
      ∙ same_later n _ _ (λ z. ap short (sym (f z)))

  -- a refusal of checks 1 to 10
  pub refused_by_plan : (r : Refusal) → number_of r ≡ round_checks m rounds 0 → number_of r ≡ refining_refusal m rounds (lent_by out work words longs)
  refused_by_plan r e =
      first_refusal (number_of r) _ (not_zero r) ∙ sym (decided (number_of r) (finished_counts rounds (topology m)) e (λ z. refl))

  module _ {p : Growth} (d : Sized m rounds p) (b : Bool) (e : b ≡ short_for_refining (lent_by out work words longs) (counts_in p.finished)) where
    tested : b ≡ short_for_refining (lent_by out work words longs) (finished_counts rounds (topology m))
    tested = e ∙ ap (short_for_refining (lent_by out work words longs)) (plan_counts d)

    -- check 11 is the refusal, or there is none
    last_decides : refining_refusal m rounds (lent_by out work words longs) ≡ check b 11 0
    last_decides = decided 0 (counts_in p.finished) (sym d.passes) (λ z. plan_counts d) ∙ ap (λ (v : Bool). check v 11 0) (sym e)

    pub refused_as_short : b ≡ true → 11 ≡ refining_refusal m rounds (lent_by out work words longs)
    refused_as_short h = last_check {n = 0} true refl h ∙ sym last_decides

    pub refused_not : b ≡ false → 0 ≡ refining_refusal m rounds (lent_by out work words longs)
    refused_not h = last_check {n = 0} false refl h ∙ sym last_decides

    pub decided_ready : b ≡ false → (numbers : WorkingNumbers) → length numbers.words.now ≡ length words → length numbers.longs.now ≡ length longs → ReadyFor rounds m p.start out work numbers
    decided_ready h = lent_ready m rounds out work words longs (plan_passed d) (sym tested ∙ h) p.start d.start

    pub decided_answer : b ≡ false → (c : Counts) → c ≡ counts_in p.finished → counts_answer_of (Ok c) ≡ refining_answer m rounds out work words longs
    unfolding refining_answer
    decided_answer h c f =
        ap (counts_answer 0) (f ∙ plan_counts d)
        ∙ ap (λ (k : ℕ). counts_answer k (finished_counts rounds (topology m))) (refused_not h)

    pub decided_written : b ≡ false → {o : Mesh} → o ≡ result_tables 0 out (refined rounds m) → o ≡ refining_output m rounds out work words longs
    unfolding refining_output
    decided_written h f = f ∙ ap (λ (k : ℕ). result_tables k out (refined rounds m)) (refused_not h)

  -- what is answered and written where the call is refused
  module _ (r : Refusal) (e : number_of r ≡ refining_refusal m rounds (lent_by out work words longs)) where
    pub decided_refused : counts_answer_of (Err r) ≡ refining_answer m rounds out work words longs
    unfolding refining_answer
    decided_refused =
        sym (refused_counts r (finished_counts rounds (topology m)))
        ∙ ap (λ (k : ℕ). counts_answer k (finished_counts rounds (topology m))) e

    pub refused_output : out ≡ refining_output m rounds out work words longs
    unfolding refining_output result_tables
    refused_output =
        let s = number_is_suc r in
        ap (λ (k : ℕ). result_tables k out (refined rounds m)) (sym s.1 ∙ e)

-- check 11 of what is lent, as the code counts it
pub short_lent : {l lent : Lengths} (f : Counts) {b : Bool} → b ≡ short_for_refining l f → l ≡ lent → b ≡ short_for_refining lent f
short_lent f e same = e ∙ ap (λ (l : Lengths). short_for_refining l f) same
