-- Laws of `floor_div` and `floor_mod`: the quotient rounded toward minus infinity, and what the division leaves.
use mathlib.Core.Path.{◌≡◌, sym, ◌∙◌, ap}
use Prim.Native.Nat.{ℕ, suc, ◌+◌, ◌*◌, ◌-◌, ◌/◌, ◌%◌, ◌≤◌, ◌<◌}
use native.Mathlib.Omega.{arith}
use native.Mathlib.Nat.{div-add-mod, mod-lt, le_of_suc-le-suc, lt_of_mul-lt-mul_left, le_of_mul-le-mul_left}
use lib.IntN.{ℤ, pos, negsuc, ◌+ℤ◌, ◌*ℤ◌}
use lib.Signed.{◌≤ℤ◌}
use Rattle.rules.specs.Means.{floor_div, floor_mod}
use Rattle.integers.proofs.Linear.{up, dn, var, nat, ◌⊕◌, ◌⊗◌, by_eq, by_le, of_eq, of_le, ≤ℤ-antisym}

-- the remainder is below the divisor
pub floor_mod_lt : (z : ℤ) (d : ℕ) → 0 < d → floor_mod z d < d
unfolding floor_mod
floor_mod_lt (pos a) d h = mod-lt a h
floor_mod_lt (negsuc a) d h = omega arith

-- the number is the divisor times the quotient, and the remainder
pub floor_split : (z : ℤ) (d : ℕ) → 0 < d → z ≡ pos d *ℤ floor_div z d +ℤ pos (floor_mod z d)
unfolding floor_div floor_mod
floor_split (pos a) d h = by_eq (nat a) (d ⊗ nat (a / d) ⊕ nat (a % d)) (omega (arith, div-add-mod a d))
floor_split (negsuc a) d h =
    by_eq (var (negsuc a)) (d ⊗ var (negsuc (a / d)) ⊕ nat (d - suc (a % d))) (omega (arith, div-add-mod a d, mod-lt a h))

-- from d * a at most d * b and less than one d more, a is at most b
cancel : (d a b r : ℕ) → d * a ≤ d * b + r → r < d → a ≤ b
cancel d a b r h k = le_of_suc-le-suc (lt_of_mul-lt-mul_left d (omega arith))

-- ---- quotient and order: d q ≤ z exactly when q is at most the quotient (the two directions)

pub floor_lower : (z q : ℤ) (d : ℕ) → 0 < d → (pos d *ℤ q) ≤ℤ z → q ≤ℤ floor_div z d
floor_lower z q d h l =
    let f = floor_div z d in
    let r = floor_mod z d in
    by_le (var q) (var f)
    (cancel d (up q + dn f) (up f + dn q) r
    (omega (arith, of_le (d ⊗ var q) (var z) l, of_eq (var z) (d ⊗ var f ⊕ nat r) (floor_split z d h)))
    (floor_mod_lt z d h))

pub floor_upper : (z q : ℤ) (d : ℕ) → 0 < d → z ≤ℤ (pos d *ℤ q) → floor_div z d ≤ℤ q
floor_upper z q d h l =
    let f = floor_div z d in
    let r = floor_mod z d in
    by_le (var f) (var q)
    (le_of_mul-le-mul_left {k = d}
    (omega (arith, of_le (var z) (d ⊗ var q) l, of_eq (var z) (d ⊗ var f ⊕ nat r) (floor_split z d h)))
    h)

-- ---- there is one quotient: whatever splits z so, with a rest below the divisor, is the quotient and the remainder

pub floor_unique : (z q : ℤ) (r d : ℕ) → r < d → z ≡ pos d *ℤ q +ℤ pos r → floor_div z d ≡ q
floor_unique z q r d h e =
    let f = floor_div z d in
    let s = floor_mod z d in
    let k : 0 < d = omega arith in
    let t : ◌≡◌ {A = ℤ} (pos d *ℤ f +ℤ pos s) (pos d *ℤ q +ℤ pos r) = sym (floor_split z d k) ∙ e in
    let u = of_eq (d ⊗ var f ⊕ nat s) (d ⊗ var q ⊕ nat r) t in
    ≤ℤ-antisym
    (by_le (var f) (var q) (cancel d (up f + dn q) (up q + dn f) r (omega (arith, u)) h))
    (by_le (var q) (var f) (cancel d (up q + dn f) (up f + dn q) s (omega (arith, u)) (floor_mod_lt z d k)))

-- a multiple of the divisor added to z moves the quotient by its factor: the law of biased arithmetic
pub floor_shift : (z k : ℤ) (d : ℕ) → 0 < d → floor_div (z +ℤ pos d *ℤ k) d ≡ floor_div z d +ℤ k
floor_shift z k d h =
    let f = floor_div z d in
    let r = floor_mod z d in
    floor_unique (z +ℤ pos d *ℤ k) (f +ℤ k) r d (floor_mod_lt z d h)
    (by_eq (var z ⊕ d ⊗ var k) (d ⊗ (var f ⊕ var k) ⊕ nat r) (omega (arith, of_eq (var z) (d ⊗ var f ⊕ nat r) (floor_split z d h))))

-- biased arithmetic: u is the sum s of n numbers, each with b added, and u / n is r with b added; then r is the mean, rounded down
pub floor_biased : (s r : ℤ) (u n b : ℕ) → 0 < n → pos u ≡ s +ℤ pos n *ℤ pos b → pos (u / n) ≡ r +ℤ pos b → r ≡ floor_div s n
unfolding floor_div
floor_biased s r u n b h e k =
    let f = floor_div s n in
    let t : pos (u / n) ≡ f +ℤ pos b = ap (λ (z : ℤ). floor_div z n) e ∙ floor_shift s (pos b) n h in
    by_eq (var r) (var f) (omega (arith, of_eq (nat (u / n)) (var r ⊕ nat b) k, of_eq (nat (u / n)) (var f ⊕ nat b) t))
