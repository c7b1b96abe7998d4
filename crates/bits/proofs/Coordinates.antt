-- A coordinate as a field of 30 bits, two's complement: the field and back (`of_field_to_field` of specs/Entries is the other way), and what
-- the code adds and takes off.
use Prim.Native.Nat.{ℕ, suc, ◌+◌, ◌-◌, ◌^◌, ◌≤◌, ◌<◌}
use mathlib.Core.Path.{◌≡◌, refl, sym, ap, subst, ◌∙◌}
use mathlib.Core.Bool.{Bool, true, false, cond, true≢false}
use mathlib.Core.Logic.{◌⊎◌, inl, inr, ⊎_elim}
use mathlib.Core.List.{List, map}
use native.Mathlib.Decide.{dec_lt}
use native.Mathlib.Omega.{arith}
use lib.Dec.{T}
use lib.IntN.{ℤ, pos, negsuc, nat_abs, ◌+ℤ◌, ◌-ℤ◌}
use lib.Signed.{mag, lt_z, non_neg}
use lib.ListN.{get_or, get_or-map}
use mir.Syntax.{w32}
use mir.Val.{Fits, SFits, to_z, of_z}
use mir.Facts.{to_z-of_z, to_z_pos}
use borrow.Author.Tests.{lt-ltb, le-ltb, ltb-true}
use Rattle.rules.specs.Refusals.{outside}
use Rattle.rules.specs.StoredForm.{to_field, of_field}
use Rattle.integers.proofs.Range.{inside}

-- ---- a field as a coordinate and back

pub to_field_lt : (z : ℤ) → outside z ≡ false → to_field z < 2 ^ 30
unfolding to_field
to_field_lt (pos n) h = omega (arith, (inside (pos n)).0 h)
to_field_lt (negsuc n) h = omega arith

halves : (v : ℕ) → (v < 2 ^ 29) ⊎ (2 ^ 29 ≤ v)
halves v = elim (dec_lt v (2 ^ 29)) [ yes l ↦ inl l | no f ↦ inr (omega arith) ]

pub low_half : (v : ℕ) → v < 2 ^ 29 → of_field v ≡ pos v
unfolding of_field
low_half v h = ap (λ (t : Bool). cond t (pos v) (negsuc (2 ^ 30 - (v + 1)))) (lt-ltb v (2 ^ 29) h)

pub high_half : (v : ℕ) → 2 ^ 29 ≤ v → of_field v ≡ negsuc (2 ^ 30 - (v + 1))
unfolding of_field
high_half v h = ap (λ (t : Bool). cond t (pos v) (negsuc (2 ^ 30 - (v + 1)))) (le-ltb v (2 ^ 29) h)

pub to_field_of_field : (v : ℕ) → v < 2 ^ 30 → to_field (of_field v) ≡ v
unfolding to_field
to_field_of_field v h = ⊎_elim (λ l. ap to_field (low_half v l)) (λ l. ap to_field (high_half v l) ∙ back l) (halves v)
  where
    back : 2 ^ 29 ≤ v → 2 ^ 30 - (2 ^ 30 - (v + 1) + 1) ≡ v
    back l = omega arith

pub of_field_near : (v : ℕ) → v < 2 ^ 30 → mag (of_field v) < 2 ^ 29
of_field_near v h =
    ⊎_elim (λ (l : v < 2 ^ 29). subst (λ (z : ℤ). mag z < 2 ^ 29) (sym (low_half v l)) l)
    (λ (l : 2 ^ 29 ≤ v). subst (λ (z : ℤ). mag z < 2 ^ 29) (sym (high_half v l)) (omega arith)) (halves v)

-- ---- what the code computes: 2 ^ 30 added below zero, and taken off above the half

add_below : (z : ℤ) → outside z ≡ false → lt_z z (pos 0) ≡ true → z +ℤ pos (2 ^ 30) ≡ pos (to_field z)
unfolding to_field
add_below (pos n) h t = absurd (omega (arith, ltb-true n 0 t))
add_below (negsuc n) h t =
    let l : n < 2 ^ 29 = (inside (negsuc n)).0 h in
    let e : suc n ≡ n + 1 = omega arith in
    ap (λ (b : Bool). cond b (negsuc (suc n - suc (2 ^ 30))) (pos (2 ^ 30 - suc n))) (le-ltb (2 ^ 30) (suc n) (omega arith))
    ∙ ap (λ (m : ℕ). pos (2 ^ 30 - m)) e

not_below : (z : ℤ) → lt_z z (pos 0) ≡ false → z ≡ pos (to_field z)
unfolding to_field
not_below (pos n) t = refl
not_below (negsuc n) t = absurd (true≢false t)

take_off : (v : ℕ) → 2 ^ 29 ≤ v → v < 2 ^ 30 → pos v -ℤ pos (2 ^ 30) ≡ of_field v
take_off v l h =
    let e : suc v ≡ v + 1 = omega arith in
    ap (λ (b : Bool). cond b (negsuc (2 ^ 30 - suc v)) (pos (v - 2 ^ 30))) (lt-ltb v (2 ^ 30) h)
    ∙ ap (λ (m : ℕ). negsuc (2 ^ 30 - m)) e
    ∙ sym (high_half v l)

-- ---- the same in a word: a signed local holds its bits, so z reads `to_z w32 (of_z w32 z)`

-- the number that is cast is the field, which an unsigned word holds
pub record Cast (z x : ℤ) : Type 0 where
  pub is : nat_abs x ≡ to_field z
  pub fits : T (non_neg x) × Fits w32 (nat_abs x)

cast : (z x : ℤ) → outside z ≡ false → x ≡ pos (to_field z) → Cast z x
cast z x h e = record {
  is = ap nat_abs e;
  fits =
      subst (λ (y : ℤ). T (non_neg y) × Fits w32 (nat_abs y)) (sym e)
      (tt, record { fits = omega (arith, to_field_lt z h) });
}

pub cast_below : (z : ℤ) → SFits w32 z → outside z ≡ false → lt_z (to_z w32 (of_z w32 z)) (pos 0) ≡ true
    → Cast z (to_z w32 (of_z w32 (to_z w32 (of_z w32 z) +ℤ pos (2 ^ 30))))
cast_below z f h t =
    let is : to_z w32 (of_z w32 z) ≡ z = to_z-of_z f in
    let sum : to_z w32 (of_z w32 z) +ℤ pos (2 ^ 30) ≡ pos (to_field z) =
    ap (λ (x : ℤ). x +ℤ pos (2 ^ 30)) is ∙ add_below z h (sym (ap (λ (x : ℤ). lt_z x (pos 0)) is) ∙ t) in
    let fits : SFits w32 (to_z w32 (of_z w32 z) +ℤ pos (2 ^ 30)) = subst (λ (x : ℤ). SFits w32 x) (sym sum) (record { sfits = omega (arith, to_field_lt z h) }) in
    cast z _ h (to_z-of_z fits ∙ sum)

pub cast_same : (z : ℤ) → SFits w32 z → outside z ≡ false → lt_z (to_z w32 (of_z w32 z)) (pos 0) ≡ false → Cast z (to_z w32 (of_z w32 z))
cast_same z f h t =
    let is : to_z w32 (of_z w32 z) ≡ z = to_z-of_z f in
    cast z _ h (is ∙ not_below z (sym (ap (λ (x : ℤ). lt_z x (pos 0)) is) ∙ t))

-- the coordinate of a field, by its half
pub word_low : (v : ℕ) → v < 2 ^ 29 → to_z w32 v ≡ of_field v
word_low v h = to_z_pos w32 (omega arith) ∙ sym (low_half v h)

pub word_high : (v : ℕ) → 2 ^ 29 ≤ v → v < 2 ^ 30 → to_z w32 (of_z w32 (to_z w32 v -ℤ pos (2 ^ 30))) ≡ of_field v
word_high v l h =
    let is : to_z w32 v -ℤ pos (2 ^ 30) ≡ of_field v =
    ap (λ (x : ℤ). x -ℤ pos (2 ^ 30)) (to_z_pos w32 {n = v} (omega arith)) ∙ take_off v l h in
    let fits : SFits w32 (to_z w32 v -ℤ pos (2 ^ 30)) = subst (λ (x : ℤ). SFits w32 x) (sym is) (record { sfits = omega (arith, of_field_near v h) }) in
    to_z-of_z fits ∙ is

-- ---- a table's entries

pub get_or_to_field : (t : List ℤ) (i : ℕ) → get_or (map to_field t) i 0 ≡ to_field (get_or t i (pos 0))
unfolding to_field
get_or_to_field t i = get_or-map to_field t i (pos 0)

pub get_or_of_field : (t : List ℕ) (i : ℕ) → get_or (map of_field t) i (pos 0) ≡ of_field (get_or t i 0)
unfolding of_field
get_or_of_field t i = get_or-map of_field t i 0
