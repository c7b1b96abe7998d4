-- The third property, for rounds of means: one claim over the whole count of rounds.
use mathlib.Core.Path.{◌≡◌, refl, sym}
use mathlib.Core.Bool.{Bool, true, false, ◌&&◌}
use mathlib.Core.List.{List}
use mathlib.Core.Logic.{◌↔◌}
use Prim.Native.Nat.{ℕ, ◌*◌, ◌-◌, ◌≤◌, ◌<◌}
use native.Mathlib.Omega.{arith}
use borrow.Author.Tests.{lt-ltb}
use lib.Dec.{T}
use lib.ListN.{length}
use lib.IntN.{ℤ, pos, ◌+ℤ◌, ◌*ℤ◌}
use lib.Signed.{lt_z, le_z, ◌≤ℤ◌, ◌<ℤ◌}
use Rattle.rules.specs.Means.{Round, coordinate}
use Rattle.rules.specs.Accuracy.{exact_divisor, exact, least, greatest, in_box, accurate}
use Rattle.lists.proofs.Tests.{false≢true, both_and}
use Rattle.integers.proofs.Linear.{var, nat, ◌⊕◌, ◌⊗◌, by_le, by_lt, of_eq}
use Rattle.rounding.specs.Good.{count, GoodRounds}
use Rattle.rounding.specs.Written.{written, NoRemainder}
use Rattle.rounding.proofs.Exact.{exact_divisor_pos}
use Rattle.rounding.proofs.Lag.{lag, exact_is, lag_below}
use Rattle.rounding.proofs.NoLag.{no_lag}
use Rattle.rounding.proofs.Box.{Between, box, written_between}

-- ---- an order as the test that it passes

is_true : (b : Bool) → T b → b ≡ true
is_true true t = refl
is_true false t = absurd t

passes_le : {a b : ℤ} → a ≤ℤ b → le_z a b ≡ true
passes_le h = is_true _ h.le

passes_lt : {a b : ℤ} → a <ℤ b → lt_z a b ≡ true
passes_lt h = is_true _ h.lt

-- ---- the property

in_box_lem : (xs : List ℤ) (w : ℤ) → Between (least xs) (greatest xs) w → in_box xs w ≡ true
in_box_lem xs w b = both_and _ _ (passes_le b.0) (passes_le b.1)

-- an exact numerator that is l above q times the written coordinate, with l below k units, and 0 exactly when nothing is left
by_lag :
    (fed : Bool) (k q l : ℕ) (e w : ℤ) → 0 < q → e ≡ pos q *ℤ w +ℤ pos l → l ≤ k * q - 1 → ((fed ≡ false) ↔ (l ≡ 0)) →
    accurate fed k e q w ≡ true
unfolding accurate
by_lag true k q l e w h is b f =
    let s = of_eq (var e) (q ⊗ var w ⊕ nat l) is in
    let some : 0 < l = positive l (λ z. false≢true (sym (f.1 z))) in
    both_and _ _ (lt-ltb 0 q h)
    (both_and _ _ (passes_lt (by_lt (q ⊗ var w) (var e) (omega (arith, s)))) (passes_lt (by_lt (var e) (q ⊗ (var w ⊕ nat k)) (omega (arith, s)))))
  where
    positive : (x : ℕ) → (x ≡ 0 → ⊥) → 0 < x
    positive x f = omega arith
by_lag false k q l e w h is b f =
    let s = of_eq (var e) (q ⊗ var w ⊕ nat l) is in
    let none : l ≡ 0 = f.0 refl in
    both_and _ _ (lt-ltb 0 q h)
    (both_and _ _ (passes_le (by_le (q ⊗ var w) (var e) (omega (arith, s)))) (passes_le (by_le (var e) (q ⊗ var w) (omega (arith, s)))))

pub accurate_rounds :
    (rs : List Round) (xs : List ℤ) (v : ℕ) (fed : Bool) → GoodRounds (length xs) rs → v < count (length xs) rs →
    ((fed ≡ false) ↔ NoRemainder rs xs v) →
    let w = coordinate (written rs xs) v in
    (accurate fed (length rs) (coordinate (exact rs xs) v) (exact_divisor rs) w && in_box xs w) ≡ true
accurate_rounds rs xs v fed g h f =
    let n = length xs in
    let clean = no_lag n xs rs g v h in
    both_and _ _
    (by_lag fed (length rs) (exact_divisor rs) (lag rs xs v) (coordinate (exact rs xs) v) (coordinate (written rs xs) v)
    (exact_divisor_pos n rs g) (exact_is n xs rs g v h) (lag_below n xs rs g v h) (λ z. clean.1 (f.0 z), λ z. f.1 (clean.0 z)))
    (in_box_lem xs _ (written_between n (least xs) (greatest xs) rs xs g (box xs) v h))
