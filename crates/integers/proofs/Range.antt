-- The test of a coordinate's range against the statement, and what a number must be to fit a signed type.
use mathlib.Core.Path.{◌≡◌, sym, ◌∙◌}
use mathlib.Core.Bool.{false, or-false}
use mathlib.Core.Logic.{◌↔◌}
use Prim.Native.Nat.{ℕ, ◌+◌, ◌^◌, ◌≤◌, ◌<◌}
use native.Mathlib.Omega.{arith}
use borrow.Author.Tests.{ltb-false, le-ltb}
use lib.Dec.{T}
use lib.IntN.{ℤ, pos, negsuc, nat_abs}
use lib.Signed.{mag, non_neg, ◌≤ℤ◌}
use mir.Syntax.{Width, w32, w64}
use mir.Val.{SFits, hbits}
use Rattle.rules.specs.Refusals.{outside}
use Rattle.integers.specs.Range.{InRange}
use Rattle.integers.proofs.Linear.{up, dn, Dif, ints}

-- ---- the test says what the statement says

pub inside : (z : ℤ) → (outside z ≡ false) ↔ InRange z
unfolding outside
inside (pos n) = (λ t. omega (arith, ltb-false 536_870_911 n t), λ h. le-ltb 536_870_911 n (omega arith))
inside (negsuc n) =
    (λ t. omega (arith, ltb-false 536_870_911 n (sym (or-false _) ∙ t)), λ h. or-false _ ∙ le-ltb 536_870_911 n (omega arith))

-- ---- by parts: the part above zero and the part below

pub range_parts : (z : ℤ) → InRange z → (up z < 536_870_912) × (dn z ≤ 536_870_912)
range_parts (pos n) h = (h, omega arith)
range_parts (negsuc n) h = (omega arith, h)

pub parts_range : (z : ℤ) → up z < 536_870_912 → dn z ≤ 536_870_912 → InRange z
parts_range (pos n) h k = h
parts_range (negsuc n) h k = k

-- ---- as an order

pub range_order : (z : ℤ) → InRange z ↔ ((negsuc 536_870_911 ≤ℤ z) × (z ≤ℤ pos 536_870_911))
range_order (pos n) = (λ h. (omega ints, omega ints), λ b. omega (ints, b.1))
range_order (negsuc n) = (λ h. (omega ints, omega ints), λ b. omega (ints, b.0))

-- ---- a number by any difference p - n that it is

-- one of the two parts of a number is 0
magnitude : (z : ℤ) (h p n : ℕ) → up z + n ≡ dn z + p → p < n + h → n ≤ p + h → mag z < h
magnitude (pos k) h p n e l m = omega arith
magnitude (negsuc k) h p n e l m = omega arith

-- it fits a signed type where it is below half of the type's power and not below minus that half
pub fits_signed : (w : Width) {z : ℤ} (a : Dif z) → a.p < a.n + 2 ^ hbits w → a.n ≤ a.p + 2 ^ hbits w → SFits w z
fits_signed w {z} a l m = record { sfits = magnitude z (2 ^ hbits w) a.p a.n a.is l m }

-- it is not negative where p is at least n, and then its size is p - n
pub not_negative : {z : ℤ} (a : Dif z) → a.n ≤ a.p → T (non_neg z)
not_negative {z = pos k} a h = tt
not_negative {z = negsuc k} a h = absurd (omega (arith, a.is))

pub size : {z : ℤ} (a : Dif z) → a.n ≤ a.p → nat_abs z + a.n ≡ a.p
size {z = pos k} a h = omega (arith, a.is)
size {z = negsuc k} a h = omega (arith, a.is)

-- ---- a coordinate fits a signed type

-- an i32
pub range_i32 : {z : ℤ} → InRange z → SFits w32 z
range_i32 h = record { sfits = omega arith }

-- an i64
pub range_i64 : {z : ℤ} → InRange z → SFits w64 z
range_i64 h = record { sfits = omega arith }
