-- Laws of steps over tallies, and that the tallies fit. Assumes nothing.
use mathlib.Core.Path.{◌≡◌, refl, sym, ap, subst, ◌∙◌}
use mathlib.Core.List.{List, []}
use Prim.Native.Nat.{ℕ, zero, suc, ◌+◌, ◌*◌, ◌≤◌, ◌<◌}
use native.Mathlib.Omega.{arith}
use native.Mathlib.Numerals.{add-one}
use lib.ListN.{get_or}
use Rattle.averaging.specs.declared.tallies.Tallies.{Tallies}
use Rattle.averaging.specs.Tally.{Tally, tally_at, repeat, Room, Spare, Tallied}
use Rattle.averaging.specs.Pass.{child_step, cell_step, weighed}
use Rattle.averaging.proofs.Sums.{sum_to_same}

-- ---- one step after another

pub repeat_more : (n : ℕ) (step : ℕ → ℕ → Tally → Tally) (f : ℕ) (t : Tally) → repeat (n + 1) step f t ≡ step n f (repeat n step f t)
unfolding repeat
repeat_more n step f t = rw (add-one n)

pub repeat_same : (n : ℕ) (step step' : ℕ → ℕ → Tally → Tally) (f : ℕ) → ((i : ℕ) → i < n → (t : Tally) → step i f t ≡ step' i f t) → (t : Tally) → repeat n step f t ≡ repeat n step' f t
unfolding repeat
repeat_same zero step step' f h t = refl
repeat_same (suc n) step step' f h t =
    ap (step n f) (repeat_same n step step' f (λ i l. h i (omega arith)) t) ∙ h n (omega arith) (repeat n step' f t)

-- ---- a loop that takes step 0, 1, .. : before the first turn, after one more, and at its end

pub tallied_start : (k : ℕ) (step : ℕ → ℕ → ℕ → Tally → Tally) (t : Tallies) → Tallied k (λ (a : ℕ). repeat 0 (step a)) t t
unfolding repeat
tallied_start k step t = record {
  ranks_kept = refl;
  totals_kept = refl;
  each = λ a f h. refl;
  within = λ a f h m x r. record { few = omega (arith, r.few); small = r.small };
}

pub tallied_again : {k j k' : ℕ} {t t' t'' : Tallies} (step : ℕ → ℕ → ℕ → Tally → Tally) (i : ℕ) → k + j ≡ k'
    → Tallied k (λ (a : ℕ). repeat i (step a)) t t' → Tallied j (λ (a : ℕ). step a i) t' t'' → Tallied k' (λ (a : ℕ). repeat (i + 1) (step a)) t t''
tallied_again {k} {j} {k'} {t} step i e s n = record {
  ranks_kept = n.ranks_kept ∙ s.ranks_kept;
  totals_kept = n.totals_kept ∙ s.totals_kept;
  each = λ a f h. n.each a f h ∙ ap (step a i f) (s.each a f h) ∙ sym (repeat_more i (step a) f (tally_at t a f));
  within = λ a f h m x r.
      subst (Room m) (sym (repeat_more i (step a) f x))
      (n.within a f h m (repeat i (step a) f x) (s.within a f h (j + m) x (record { few = omega (arith, r.few); small = r.small })));
}

pub tallied_end : {i n : ℕ} {t t' : Tallies} (k : ℕ → ℕ) (step : ℕ → ℕ → ℕ → Tally → Tally) → i ≡ n
    → Tallied (k i) (λ (a : ℕ). repeat i (step a)) t t' → Tallied (k n) (λ (a : ℕ). repeat n (step a)) t t'
tallied_end {t = t} {t'} k step e s = subst (λ (n : ℕ). Tallied (k n) (λ (a : ℕ). repeat n (step a)) t t') e s

-- the same by another account of the step
pub tallied_by : {k : ℕ} {t t' : Tallies} {step : ℕ → ℕ → Tally → Tally} (step' : ℕ → ℕ → Tally → Tally)
    → ((a f : ℕ) → a < 3 → (x : Tally) → step a f x ≡ step' a f x) → Tallied k step t t' → Tallied k step' t t'
tallied_by {t = t} step' e s = record {
  ranks_kept = s.ranks_kept;
  totals_kept = s.totals_kept;
  each = λ a f h. s.each a f h ∙ e a f h (tally_at t a f);
  within = λ a f h m x r. subst (Room m) (e a f h x) (s.within a f h m x r);
}

-- what a cell adds depends on its corners' coordinates alone
pub cell_same : (n d : ℕ) (weights : List (List ℕ)) (e e' : ℕ → ℕ) (children : List (List ℕ)) (f : ℕ) → ((u : ℕ) → u < n → e u ≡ e' u) → (t : Tally) → cell_step n d weights e children f t ≡ cell_step n d weights e' children f t
unfolding cell_step weighed
cell_same n d weights e e' children f h =
    repeat_same n (λ (i : ℕ). child_step n d (weighed n (get_or weights i []) e) (get_or children i [])) (λ (i : ℕ). child_step n d (weighed n (get_or weights i []) e') (get_or children i [])) f
    (λ i l t. ap (λ (s : ℕ). child_step n d s (get_or children i []) f t) (sum_to_same n (λ (u : ℕ). get_or (get_or weights i []) u 0 * e u) (λ (u : ℕ). get_or (get_or weights i []) u 0 * e' u) (λ u k. ap (λ (x : ℕ). get_or (get_or weights i []) u 0 * x) (h u k))))

-- ---- room

pub spare_less : {k m : ℕ} {t : Tallies} → m ≤ k → Spare k t → Spare m t
spare_less e s = record { same = s.same; room = λ a f h l. let r = s.room a f h l in record { few = omega (arith, r.few); small = r.small } }

-- after a step that counts at most j cells
pub spare_after : (j : ℕ) {k m : ℕ} {t t' : Tallies} {step : ℕ → ℕ → Tally → Tally} → j + m ≤ k → Tallied j step t t' → Spare k t → Spare m t'
spare_after j {m = m} l s x = record {
  same = omega (arith, x.same, s.ranks_kept, s.totals_kept);
  room = λ a f h i. subst (Room m) (sym (s.each a f h)) (s.within a f h m _ (let r = x.room a f h (omega (arith, s.ranks_kept)) in record { few = omega (arith, r.few); small = r.small }));
}
