-- The index width: 32 less the leading zeros, with 1 for 0; it holds the highest vertex number.
use Prim.Native.Nat.{ℕ, zero, suc, ◌+◌, ◌-◌, ◌/◌, ◌^◌, ◌≤◌, ◌<◌}
use mathlib.Core.Path.{◌≡◌, refl, ap}
use mathlib.Core.Logic.{◌≢◌}
use native.Mathlib.Nat.{lt_of_lt_of_le, le-max_right}
use native.Mathlib.Omega.{arith}
use lib.Count.{count_leading_zeros}
use lib.Dec.{lit<}
use lib.Pow.{pow_mono}
use Rattle.rules.specs.Bits.{digits_in, binary_digits, width_of}

-- the digits and the zeros above them make the width of the word
digits_zeros : (d n : ℕ) → digits_in d n + count_leading_zeros d n ≡ d
unfolding digits_in count_leading_zeros
digits_zeros zero n = refl
digits_zeros (suc d) zero = omega arith
digits_zeros (suc d) (suc n) = omega (arith, digits_zeros d (suc n / 2))

-- enough digits to look at are enough
digits_same : (d e n : ℕ) → n < 2 ^ d → n < 2 ^ e → digits_in d n ≡ digits_in e n
unfolding digits_in
digits_same zero zero n h l = refl
digits_same zero (suc e) zero h l = refl
digits_same zero (suc e) (suc n) h l = absurd (omega arith)
digits_same (suc d) zero zero h l = refl
digits_same (suc d) zero (suc n) h l = absurd (omega arith)
digits_same (suc d) (suc e) zero h l = refl
digits_same (suc d) (suc e) (suc n) h l = ap suc (digits_same d e (suc n / 2) (omega arith) (omega arith))

below_power : (n : ℕ) → n < 2 ^ n
below_power zero = lit< tt
below_power (suc n) = omega (arith, below_power n)

-- a number that is not 0 has a digit
digits_pos : (n : ℕ) → n ≢ 0 → 0 < digits_in n n
unfolding digits_in
digits_pos zero h = absurd (h refl)
digits_pos (suc n) h = omega arith

-- ---- as the code has it

pub width_zero : width_of 0 ≡ 1
unfolding width_of binary_digits digits_in
width_zero = refl

pub width_leading : (d n : ℕ) → n < 2 ^ d → n ≢ 0 → d - count_leading_zeros d n ≡ width_of n
unfolding width_of binary_digits
width_leading d n h ne = omega (arith, digits_zeros d n, digits_same d n n h (below_power n), digits_pos n ne)

-- ---- what the width holds

digits_hold : (d n : ℕ) → n < 2 ^ d → n < 2 ^ digits_in d n
unfolding digits_in
digits_hold zero n h = h
digits_hold (suc d) zero h = lit< tt
digits_hold (suc d) (suc n) h =
    let more : suc n < 2 ^ suc (digits_in d (suc n / 2)) = omega (arith, digits_hold d (suc n / 2) (omega arith)) in
    more

digits_le : (d n : ℕ) → digits_in d n ≤ d
unfolding digits_in
digits_le zero n = omega arith
digits_le (suc d) zero = omega arith
digits_le (suc d) (suc n) = omega (arith, digits_le d (suc n / 2))

-- w bits hold the number
pub width_holds : (n : ℕ) → n < 2 ^ width_of n
unfolding width_of binary_digits
width_holds n = lt_of_lt_of_le (digits_hold n n (below_power n)) (pow_mono (le-max_right 1 (digits_in n n)))

-- a number below 2 ^ d takes at most d, and at least 1
pub width_le : (d n : ℕ) → 0 < d → n < 2 ^ d → width_of n ≤ d
unfolding width_of binary_digits
width_le d n p h = omega (arith, digits_le d n, digits_same d n n h (below_power n))

pub width_pos : (n : ℕ) → 0 < width_of n
unfolding width_of
width_pos n = omega arith
