-- What is reported is the coordinate over 1024, with nothing rounded; and one division gives it.
use mathlib.Core.Path.{◌≡◌, refl, sym, ap, ◌∙◌, subst}
use mathlib.Core.Bool.{Bool, true, false, ◌||◌}
use Prim.Native.Nat.{ℕ, zero, suc, ◌+◌, ◌-◌, ◌*◌, ◌/◌, ◌^◌, ◌≤◌, ◌<◌, zero-le}
use native.Mathlib.Nat.{add_assoc, mul_right_comm, mul-one, mul_assoc, mul-pos, lt_of_lt_of_le}
use native.Mathlib.Omega.{arith}
use lib.IntN.{ℤ, pos, negsuc, nat_abs}
use lib.Signed.{lt_z}
use lib.Dec.{T, leb, ltb, lit<, lit≤}
use lib.Pow.{shl_lt}
use lib.Count.{count_trailing_zeros}
use borrow.Author.Tests.{leb-true, leb-false, le-leb, lt-leb, le-ltb, ltb-false}
use lib.Ieee.{Float, fin, Format, binary64, low, unlike, up, down, minus, odd, round, div, of_int, fits, to_bits, of_bits}
use lib.Ieee.Fits.{odd-fits, round-fits, down_pos}
use lib.Ieee.Exact.{HasValue, odd_sign, round_exact}
use lib.Ieee.Nearest.{div_same}
use lib.Ieee.Scale.{round_same}
use lib.Ieee.Back.{round_whole}
use lib.Ieee.Bits.{of_bits-to_bits}
use Rattle.rules.specs.Refusals.{outside}
use Rattle.rules.specs.EntryPoints.{in_millimetres}

-- a coordinate is negative
abbrev pub negative : ℤ → Bool
negative z = lt_z z (pos 0)

value : (s : Bool) (n : ℕ) → HasValue (odd 30 s n 0 10) s n 1024
value s n = subst (λ (a : ℕ). HasValue (odd 30 s n 0 10) s a 1024) (mul-one n) (odd_sign 30 s n 0 10)

-- The report is finite, has the coordinate's sign, and is in size |z| / 1024: m * 2 ^ e * 1024 is |z|, by cross-multiplying.
pub exact : (z : ℤ) → HasValue (in_millimetres z) (negative z) (nat_abs z) 1024
unfolding in_millimetres
exact z = value (negative z) (nat_abs z)

-- ---- two values that fit and are the same number with the same sign are one

module _ (f : Format) (s : Bool) (a c : ℕ) (h : 0 < c) where
  -- the size in units of the format's smallest value
  in_units : (m : ℕ) (e : ℤ) → m * up e * c ≡ a * down e → m * up e * 2 ^ low f / down e ≡ a * 2 ^ low f / c
  in_units m e v =
      div_same (m * up e * 2 ^ low f) (down e) (a * 2 ^ low f) c (down_pos e) h
      (mul_right_comm (m * up e) (2 ^ low f) c ∙ ap (λ (n : ℕ). n * 2 ^ low f) v ∙ mul_right_comm a (down e) (2 ^ low f))

  same_bits : (x y : Float) → HasValue x s a c → HasValue y s a c → to_bits f x ≡ to_bits f y
  unfolding to_bits
  same_bits (fin t m e) (lib.Ieee.inf _) v w = elim w [ ]
  same_bits (fin t m e) lib.Ieee.nan v w = elim w [ ]
  same_bits (lib.Ieee.inf _) y v w = elim v [ ]
  same_bits lib.Ieee.nan y v w = elim v [ ]
  same_bits (fin t m e) (fin u n g) v w = rw (v.0, w.0, in_units m e v.1, in_units n g w.1)

  pub one_value : {x y : Float} → T (fits f x) → T (fits f y) → HasValue x s a c → HasValue y s a c → x ≡ y
  one_value {x} {y} p q v w = sym (of_bits-to_bits f x p) ∙ ap (of_bits f) (same_bits x y v w) ∙ of_bits-to_bits f y q

-- ---- the report fits

minus_same : (j a b : ℕ) → minus (j + a) (j + b) ≡ minus a b
minus_same j a b = go (leb b a) refl
  where
    go : (t : Bool) → leb b a ≡ t → minus (j + a) (j + b) ≡ minus a b
    go true e =
        let l = leb-true b a e in
        let d : j + a - (j + b) ≡ a - b = omega arith in
        rw (e, le-leb (j + b) (j + a) (omega arith), d)
    go false e =
        let l = leb-false b a e in
        let d : j + b - suc (j + a) ≡ b - suc a = omega arith in
        rw (e, lt-leb (j + b) (j + a) (omega arith), d)

odd_same : (d : ℕ) (s : Bool) (q k l j : ℕ) → odd d s q (j + k) (j + l) ≡ odd d s q k l
unfolding odd
odd_same d s zero k l j = refl
odd_same d s (suc q) k l j = rw (add_assoc j k (count_trailing_zeros d (suc q)), minus_same j (k + count_trailing_zeros d (suc q)) l)

-- the binary digits that a coordinate's magnitude has at most
module _ (s : Bool) (n : ℕ) (h : n < 2 ^ 30) where
  -- in units of the smallest value, n * 2 ^ 1064
  room : n * 2 ^ 1064 < 2 ^ (low binary64 + 1024)
  room = lt_of_lt_of_le (shl_lt 30 1064 h) (lit≤ tt)

  odd_holds : T (fits binary64 (odd 30 s n 0 10))
  odd_holds = subst (λ (x : Float). T (fits binary64 x)) (odd_same 30 s n 0 10 1064) (odd-fits binary64 30 s n 1064 h (omega arith) room)

  round_value : HasValue (round binary64 s n 1024) s n 1024
  round_value = round_exact binary64 s n 1024 n 1064 (lit< tt) (omega arith) room (sym (mul_assoc n (2 ^ 1064) 1024))

  rounded : round binary64 s n 1024 ≡ odd 30 s n 0 10
  rounded = one_value binary64 s n 1024 (lit< tt) (round-fits binary64 s n 1024) odd_holds round_value (value s n)

-- ---- one division

-- 1024, as a float
abbrev thousand : Float
thousand = fin false 1 (pos 10)

like : (s : Bool) → unlike s false ≡ s
like true = refl
like false = refl

quotient : (x : Float) (s : Bool) (n : ℕ) → HasValue x s n 1 → div binary64 x thousand ≡ round binary64 s n 1024
unfolding div
quotient (lib.Ieee.inf _) s n v = elim v [ ]
quotient lib.Ieee.nan s n v = elim v [ ]
quotient (fin t m e) s n v =
    rw (like t, v.0)
    (round_same binary64 s (m * up e * 1) (1 * 1024 * down e) n 1024 (mul-pos (lit< tt) (down_pos e)) (lit< tt) (rw v.1 (omega arith)))

of_int_lem : (z : ℤ) → nat_abs z ≤ 2 ^ 53 → HasValue (of_int binary64 z) (negative z) (nat_abs z) 1
unfolding of_int
of_int_lem (pos n) h = rw (le-ltb n 0 zero-le) (round_whole binary64 false n h)
of_int_lem (negsuc n) h = round_whole binary64 true (suc n) h

-- a coordinate that passes check 3 has at most 30 digits
pub in_range_lem : (z : ℤ) → outside z ≡ false → nat_abs z < 2 ^ 30
unfolding outside
in_range_lem (pos n) e = omega (arith, ltb-false 536_870_911 n e)
in_range_lem (negsuc n) e = omega (arith, ltb-false 536_870_911 n (or_left (ltb 536_870_911 n) e))
  where
    or_left : (a : Bool) → (a || false) ≡ false → a ≡ false
    or_left true e = e
    or_left false e = refl

pub divided : (z : ℤ) → outside z ≡ false → div binary64 (of_int binary64 z) thousand ≡ in_millimetres z
unfolding in_millimetres
divided z e =
    let h = in_range_lem z e in
    quotient (of_int binary64 z) (negative z) (nat_abs z) (of_int_lem z (omega arith)) ∙ rounded (negative z) (nat_abs z) h
