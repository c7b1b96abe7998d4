-- The first bits of a file, a field of it, and bits packed into bytes.
use Prim.Native.Nat.{ℕ, ◌+◌, ◌-◌, ◌*◌, ◌/◌, ◌%◌, ◌^◌, ◌≤◌, ◌<◌}
use mathlib.Core.Path.{◌≡◌, sym, ap, ◌∙◌, subst}
use mathlib.Core.List.{List, ◌++◌}
use native.Mathlib.Nat.{mod-lt, mod-eq_of_lt, div-eq_of_lt, div-one, sub-zero}
use native.Mathlib.Omega.{arith}
use lib.ListN.{length, length-append}
use lib.Pow.{pow_pos, split, high, shr-shr, shl-shr, shl_lt}
use Rattle.rules.specs.Bits.{number, first_bits, field_at, bytes_for, filling, packed}
use Rattle.bits.specs.Writing.{Bytes}
use Rattle.bits.proofs.Bytes.{number_append, number_lt, number_bytes_of, length_bytes_of, bytes_of_bytes}

-- ---- the first bits

-- k bits off the end
pub first_shr : (s : List ℕ) (p k : ℕ) → p + k ≤ 8 * length s → first_bits s (p + k) / 2 ^ k ≡ first_bits s p
unfolding first_bits
first_shr s p k h =
    shr-shr (number s) (8 * length s - (p + k)) k ∙ ap (λ (e : ℕ). number s / 2 ^ e) (omega arith)

pub first_none : (s : List ℕ) → Bytes s → first_bits s 0 ≡ 0
unfolding first_bits
first_none s h = ap (λ (e : ℕ). number s / 2 ^ e) (sub-zero (8 * length s)) ∙ div-eq_of_lt (number_lt s h)

-- all bits
pub first_all : (s : List ℕ) (n : ℕ) → n ≡ 8 * length s → first_bits s n ≡ number s
unfolding first_bits
first_all s n h =
    let none : 8 * length s - n ≡ 0 = omega arith in
    ap (λ (e : ℕ). number s / 2 ^ e) none ∙ div-one (number s)

-- what stands behind byte length a does not show in the first bits
pub first_append : (a b : List ℕ) (e : ℕ) → Bytes b → e ≤ 8 * length a → first_bits (a ++ b) e ≡ first_bits a e
unfolding first_bits
first_append a b e hb h =
    rw (number_append, length-append)
    (ap (λ (x : ℕ). (number a * 2 ^ (8 * length b) + number b) / 2 ^ x) (omega arith)
    ∙ sym (shr-shr (number a * 2 ^ (8 * length b) + number b) (8 * length b) (8 * length a - e))
    ∙ ap (λ (q : ℕ). q / 2 ^ (8 * length a - e)) (high (number a) (8 * length b) (number_lt b hb)))

-- ---- a field

-- the first p + k bits are the first p and the field
pub first_split : (s : List ℕ) (p k : ℕ) → p + k ≤ 8 * length s → first_bits s (p + k) ≡ first_bits s p * 2 ^ k + field_at s p k
unfolding field_at
first_split s p k h =
    sym (split (first_bits s (p + k)) k) ∙ ap (λ (q : ℕ). q * 2 ^ k + field_at s p k) (first_shr s p k h)

pub field_lt : (s : List ℕ) (p k : ℕ) → field_at s p k < 2 ^ k
unfolding field_at
field_lt s p k = mod-lt (first_bits s (p + k)) (pow_pos k)

-- the filling bits are the last field of a file
pub field_last : (s : List ℕ) (p k : ℕ) → p + k ≡ 8 * length s → field_at s p k ≡ number s % 2 ^ k
unfolding field_at
field_last s p k h = ap (λ (q : ℕ). q % 2 ^ k) (first_all s (p + k) h)

-- ---- packed bits

pub bytes_for_ge : (n : ℕ) → n ≤ 8 * bytes_for n
unfolding bytes_for
bytes_for_ge n = omega arith

pub bytes_for_lt : (n : ℕ) → 8 * bytes_for n < n + 8
unfolding bytes_for
bytes_for_lt n = omega arith

pub bytes_for_mono : (n m : ℕ) → n ≤ m → bytes_for n ≤ bytes_for m
unfolding bytes_for
bytes_for_mono n m h = omega arith

pub filled : (n : ℕ) → n + filling n ≡ 8 * bytes_for n
filled n = omega (arith, bytes_for_ge n)

pub length_packed : (n v : ℕ) → length (packed n v) ≡ bytes_for n
unfolding packed
length_packed n v = length_bytes_of (bytes_for n) (v * 2 ^ filling n)

-- a value's stored form is a list of bytes
pub packed_bytes : (n v : ℕ) → Bytes (packed n v)
unfolding packed
packed_bytes n v = bytes_of_bytes (bytes_for n) (v * 2 ^ filling n)

pub number_packed : (n v : ℕ) → v < 2 ^ n → number (packed n v) ≡ v * 2 ^ filling n
unfolding packed
number_packed n v h =
    number_bytes_of (bytes_for n) (v * 2 ^ filling n)
    ∙ mod-eq_of_lt (subst (λ (e : ℕ). v * 2 ^ filling n < 2 ^ e) (filled n) (shl_lt n (filling n) h))

pub first_packed : (n v : ℕ) → v < 2 ^ n → first_bits (packed n v) n ≡ v
unfolding first_bits
first_packed n v h = rw (length_packed, number_packed n v h) (shl-shr v (filling n))
