-- The definitions by numbers mean what the lists of bits say: the stored form of fields (`encode_is_bits`) and a field of a file
-- (`field_is_bits`).
use Prim.Native.Nat.{ℕ, zero, suc, ◌+◌, ◌-◌, ◌*◌, ◌/◌, ◌%◌, ◌^◌, ◌≤◌, ◌<◌}
use mathlib.Core.Path.{◌≡◌, refl, sym, ap, ap₂, ◌∙◌}
use mathlib.Core.List.{List, [], ◌∷◌, ◌++◌, append_assoc}
use native.Mathlib.Nat.{mod-lt, mul-add-mod_self_right, mul-add-div_right, add-zero, zero-add, suc-add, pow-suc, div-eq_of_lt}
use native.Mathlib.Omega.{arith}
use lib.ListN.{length, take, drop, replicate}
use lib.Seq.{take_at, drop_at}
use lib.Pow.{pow_pos, high, shr-shr, split}
use Rattle.rules.specs.Bits.{number, first_bits, field_at, Field, bits_in, spelled, bytes_for, filling, bytes_of, packed, encode}
use Rattle.bits.specs.BitList.{bits, bits_of, field_bits}
use Rattle.bits.specs.Writing.{Bytes, Fit}
use Rattle.bits.proofs.Bytes.{bytes_number}
use Rattle.bits.proofs.Fields.{filled, first_split, field_lt}
use Rattle.bits.proofs.Encoding.{spelled_lt}

length_bits : (k v : ℕ) → length (bits k v) ≡ k
unfolding bits
length_bits zero v = refl
length_bits (suc k) v = ap suc (length_bits k v)

bits_suc : (k v : ℕ) → bits (suc k) v ≡ v / 2 ^ k % 2 ∷ bits k v
unfolding bits
bits_suc k v = refl

bits_zero : (v : ℕ) → bits 0 v ≡ []
unfolding bits
bits_zero v = refl

-- what stands above the k bits does not show in them
bits_low : (k x y : ℕ) → bits k (x * 2 ^ k + y) ≡ bits k y
unfolding bits
bits_low zero x y = refl
bits_low (suc k) x y =
    let e : x * 2 ^ suc k + y ≡ x * 2 * 2 ^ k + y = rw (pow-suc 2 k) (omega arith) in
    ap₂ (λ (b : ℕ) (t : List ℕ). b ∷ t)
    (ap (λ (q : ℕ). q / 2 ^ k % 2) e ∙ ap (λ (q : ℕ). q % 2) (mul-add-div_right (pow_pos k) (x * 2) y) ∙ mul-add-mod_self_right x 2 (y / 2 ^ k))
    (ap (bits k) e ∙ bits_low k (x * 2) y)

bits_mod : (k v : ℕ) → bits k (v % 2 ^ k) ≡ bits k v
bits_mod k v = sym (bits_low k (v / 2 ^ k) (v % 2 ^ k)) ∙ ap (bits k) (split v k)

bits_append : (a b x y : ℕ) → y < 2 ^ b → bits (a + b) (x * 2 ^ b + y) ≡ bits a x ++ bits b y
bits_append zero b x y h = rw (zero-add, bits_zero) (bits_low b x y)
bits_append (suc a) b x y h =
    rw (suc-add, bits_suc, bits_suc a x)
    (ap₂ (λ (q : ℕ) (t : List ℕ). q ∷ t)
    (ap (λ (q : ℕ). q % 2)
    (ap (λ (e : ℕ). (x * 2 ^ b + y) / 2 ^ e) (omega arith) ∙ sym (shr-shr (x * 2 ^ b + y) b a) ∙ ap (λ (q : ℕ). q / 2 ^ a) (high x b h)))
    (bits_append a b x y h))

bits_zeros : (k : ℕ) → bits k 0 ≡ replicate k 0
unfolding bits
bits_zeros zero = refl
bits_zeros (suc k) = ap₂ (λ (b : ℕ) (t : List ℕ). b ∷ t) (ap (λ (q : ℕ). q % 2) (div-eq_of_lt (pow_pos k))) (bits_zeros k)

bits_bytes : (m v : ℕ) → bits_of (bytes_of m v) ≡ bits (8 * m) v
unfolding bits_of bytes_of
bits_bytes zero v = sym (bits_zero v)
bits_bytes (suc m) v =
    let n : ℕ = 8 * m in
    let len : 8 + n ≡ 8 * suc m = omega arith in
    ap₂ (λ (a b : List ℕ). a ++ b) (bits_mod 8 (v / 2 ^ n)) (bits_bytes m v ∙ sym (bits_mod n v))
    ∙ sym (bits_append 8 n (v / 2 ^ n) (v % 2 ^ n) (mod-lt v (pow_pos n)))
    ∙ ap₂ bits len (split v n)

bits_fields : (fs : List Field) → Fit fs → field_bits fs ≡ bits (bits_in fs) (spelled fs)
unfolding field_bits bits_in spelled
bits_fields [] h = sym (bits_zero 0)
bits_fields (f ∷ fs) h =
    ap (λ (l : List ℕ). bits f.width f.value ++ l) (bits_fields fs h.1)
    ∙ sym (bits_append f.width (bits_in fs) f.value (spelled fs) (spelled_lt fs h.1))

-- The bits of a stored form are the bits of its fields, and then zero bits.
pub encode_is_bits : (fs : List Field) → Fit fs → bits_of (encode fs) ≡ field_bits fs ++ replicate (filling (bits_in fs)) 0
unfolding encode packed
encode_is_bits fs h =
    let n : ℕ = bits_in fs in
    let f : ℕ = filling n in
    let v : ℕ = spelled fs in
    bits_bytes (bytes_for n) (v * 2 ^ f)
    ∙ ap₂ bits (sym (filled n)) (sym (add-zero (v * 2 ^ f)))
    ∙ bits_append n f v 0 (pow_pos f)
    ∙ ap₂ (λ (a b : List ℕ). a ++ b) (sym (bits_fields fs h)) (bits_zeros f)

-- The bits of a field are the k bits from bit p on.
pub field_is_bits : (s : List ℕ) (p k : ℕ) → Bytes s → p + k ≤ 8 * length s → bits k (field_at s p k) ≡ take k (drop p (bits_of s))
unfolding first_bits
field_is_bits s p k hs h =
    let r : ℕ = 8 * length s - (p + k) in
    let N : ℕ = number s in
    let A : ℕ = first_bits s p in
    let F : ℕ = field_at s p k in
    let R : ℕ = N % 2 ^ r in
    let len : 8 * length s ≡ p + k + r = omega arith in
    let value : N ≡ (A * 2 ^ k + F) * 2 ^ r + R = sym (split N r) ∙ ap (λ (q : ℕ). q * 2 ^ r + R) (first_split s p k h) in
    let whole : bits_of s ≡ bits p A ++ (bits k F ++ bits r R) =
    ap bits_of (sym (bytes_number s hs)) ∙ bits_bytes (length s) N ∙ ap₂ bits len value
    ∙ bits_append (p + k) r (A * 2 ^ k + F) R (mod-lt N (pow_pos r))
    ∙ ap (λ (l : List ℕ). l ++ bits r R) (bits_append p k A F (field_lt s p k))
    ∙ append_assoc (bits p A) (bits k F) (bits r R) in
    sym
    (ap (λ (l : List ℕ). take k (drop p l)) whole
    ∙ ap (take k) (drop_at (bits p A) (bits k F ++ bits r R) p (length_bits p A))
    ∙ take_at (bits k F) (bits r R) k (length_bits k F))
