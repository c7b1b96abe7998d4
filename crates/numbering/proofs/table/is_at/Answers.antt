use Rattle.std.proofs.Common.{◌≡◌, ◌+◌, ◌-◌, ◌<◌, ◌≤◌, ℕ, List, [], ◌∷◌, length, get_or, take, drop, refl, sym, ◌∙◌, arith, length-append, below_more}
use Rattle.std.proofs.lemmas.Bool.{false≢true}
use Rattle.std.proofs.lemmas.List.{get_or-take, get_or-drop}
use Rattle.std.proofs.lemmas.Slice.Zip.{zip_turn, zip_end}
use lib.Seq.{length-take-le}
use lib.ListN.{length-drop}
use Rattle.numbering.proofs.Entries.{run_same, run_differs}
use Rattle.numbering.proofs.table.is_at.Goals as goal

-- what is lent of the words: n of them, from `at` on
lent : List ℕ → ℕ → ℕ → List ℕ
lent w at n = take (at + n - at) (drop at w)

lent_at : (w : List ℕ) (at n i : ℕ) → i < n → get_or (lent w at n) i 0 ≡ get_or w (at + i) 0
unfolding lent
lent_at w at n i l = get_or-take (at + n - at) (drop at w) i 0 (omega arith) ∙ get_or-drop at w i 0

lent_length : (w : List ℕ) (at n : ℕ) → at + n ≤ length w → length (lent w at n) ≡ n
unfolding lent
lent_length w at n l = length-take-le (at + n - at) (drop at w) (omega (arith, length-drop at w)) ∙ omega arith

pub returns-then-x-y : goal.returns-then-x-y
unfolding lent
returns-then-x-y c =
    let x = c.args in
    let n = length x.key.now in
    let i = length c.loop-x.yielded in
    let t = zip_turn (lent x.w.now x.at n) x.key.now c.loop-x.yielded _ _ c.next.new.self _ (cc) (cc) c.loop-x.yielded_by _ c.in-Some.is c.next.ensures.steps in
    let differ : get_or x.w.now (x.at + i) 0 ≡ get_or x.key.now i 0 → ⊥ = λ h. c.if-x-y.true (t.2 0 ∙ lent_at x.w.now x.at n i t.1 ∙ h ∙ sym (t.3 0)) in
    (λ e. absurd (false≢true e), λ e. absurd (run_differs x.w.now x.at x.key.now i t.1 differ e))

pub loop-x-preserved : goal.loop-x-preserved
unfolding lent
loop-x-preserved c =
    let x = c.args in
    let n = length x.key.now in
    let i = length c.loop-x.yielded in
    let t = zip_turn (lent x.w.now x.at n) x.key.now c.loop-x.yielded _ _ c.next.new.self _ (cc) (cc) c.loop-x.yielded_by _ c.in-Some.is c.next.ensures.steps in
    let here : get_or x.w.now (x.at + i) 0 ≡ get_or x.key.now i 0 = sym (lent_at x.w.now x.at n i t.1) ∙ sym (t.2 0) ∙ c.if-x-y.false ∙ t.3 0 in
    record {
      can_next = (tt, tt);
      is_finite = tt;
      same = λ k h.
          below_more (λ (k : ℕ). get_or x.w.now (x.at + k) 0 ≡ get_or x.key.now k 0) i c.loop-x.invariant.same here k
          (omega (arith, length-append c.loop-x.yielded ((c.in-Some.x, c.in-Some.y) ∷ [])));
    }

pub returns : goal.returns
unfolding lent
returns c =
    let x = c.args in
    let n = length x.key.now in
    let e = zip_end (lent x.w.now x.at n) x.key.now c.loop-x.yielded _ _ c.next.new.self _ (cc) (cc) c.loop-x.yielded_by c.in-None.is c.next.ensures.steps in
    (λ _. run_same x.w.now x.at x.key.now (λ i u. c.loop-x.invariant.same i (omega (arith, e, lent_length x.w.now x.at n c.requires))), λ _. refl)
