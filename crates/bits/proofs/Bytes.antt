-- Bytes and the number that they spell.
use Prim.Native.Nat.{ℕ, zero, suc, ◌+◌, ◌*◌, ◌/◌, ◌%◌, ◌^◌, ◌<◌}
use mathlib.Core.Path.{◌≡◌, refl, sym, ap, ap₂, ◌∙◌}
use mathlib.Core.List.{List, [], ◌∷◌, ◌++◌}
use native.Mathlib.Nat.{div-one, pow-suc, mul-add, mul-suc, mul_comm, mod-lt, mod-eq_of_lt, suc-add, zero-add, mod-one, mul-add-mod_self_right, mul-add-div_right}
use native.Mathlib.Omega.{arith}
use lib.ListN.{length, take, drop, length-append}
use lib.Seq.{get_or-drop}
use lib.Dec.{lit<}
use lib.Arith.{digits_lt}
use lib.Pow.{pow_pos, pow-add, high, shr-shr, mod-pow-add}
use Rattle.std.specs.Int.{byte_at, bytes_high_first}
use Rattle.rules.specs.Bits.{number, bytes_of}
use Rattle.bits.specs.Writing.{Bytes}

pub number_nil : number [] ≡ 0
unfolding number
number_nil = refl

pub number_cons : (x : ℕ) (s : List ℕ) → number (x ∷ s) ≡ x * 2 ^ (8 * length s) + number s
unfolding number
number_cons x s = refl

pub number_one : (x : ℕ) → number (x ∷ []) ≡ x
number_one x = rw (number_cons, number_nil) (omega arith)

bytes_of_zero : (v : ℕ) → bytes_of 0 v ≡ []
unfolding bytes_of
bytes_of_zero v = refl

bytes_of_suc : (m v : ℕ) → bytes_of (suc m) v ≡ v / 2 ^ (8 * m) % 256 ∷ bytes_of m v
unfolding bytes_of
bytes_of_suc m v = refl

pub number_append : (a b : List ℕ) → number (a ++ b) ≡ number a * 2 ^ (8 * length b) + number b
unfolding number
number_append [] b = omega arith
number_append (x ∷ a) b =
    number_cons x (a ++ b)
    ∙ rw (length-append, mul-add, pow-add, number_append a b) (rw number_cons (omega arith))

-- ---- every element is a byte

pub bytes_tail : (x : ℕ) (s : List ℕ) → Bytes (x ∷ s) → Bytes s
bytes_tail x s h i = h (suc i)

pub drop_bytes : (n : ℕ) (d : List ℕ) → Bytes d → Bytes (drop n d)
drop_bytes n d h i = rw get_or-drop (h (n + i))

pub take_bytes : (n : ℕ) (d : List ℕ) → Bytes d → Bytes (take n d)
take_bytes zero d h i = lit< tt
take_bytes (suc n) [] h i = h i
take_bytes (suc n) (x ∷ d) h zero = h 0
take_bytes (suc n) (x ∷ d) h (suc i) = take_bytes n d (bytes_tail x d h) i

-- the bytes of a number are bytes
pub bytes_of_bytes : (m v : ℕ) → Bytes (bytes_of m v)
unfolding bytes_of
bytes_of_bytes zero v i = lit< tt
bytes_of_bytes (suc m) v zero = mod-lt (v / 2 ^ (8 * m)) (lit< tt)
bytes_of_bytes (suc m) v (suc i) = bytes_of_bytes m v i

pub length_bytes_of : (m v : ℕ) → length (bytes_of m v) ≡ m
unfolding bytes_of
length_bytes_of zero v = refl
length_bytes_of (suc m) v = ap suc (length_bytes_of m v)

-- ---- there and back

-- one byte more above m bytes
pow_byte : (m : ℕ) → 2 ^ (8 * suc m) ≡ 256 * 2 ^ (8 * m)
pow_byte m = rw (mul-suc, pow-add) (mul_comm (2 ^ (8 * m)) 256)

pub number_lt : (s : List ℕ) → Bytes s → number s < 2 ^ (8 * length s)
unfolding number
number_lt [] h = lit< tt
number_lt (x ∷ s) h =
    let t : x * 2 ^ (8 * length s) + number s < 256 * 2 ^ (8 * length s) = digits_lt (h 0) (number_lt s (bytes_tail x s h)) in
    rw pow_byte (omega (arith, t))

-- what stands above the m bytes does not show in them
bytes_of_low : (m x y : ℕ) → bytes_of m (x * 2 ^ (8 * m) + y) ≡ bytes_of m y
unfolding bytes_of
bytes_of_low zero x y = refl
bytes_of_low (suc m) x y =
    let e : x * 2 ^ (8 * suc m) + y ≡ x * 256 * 2 ^ (8 * m) + y = rw pow_byte (omega arith) in
    rw (bytes_of_suc, bytes_of_suc m y, e)
    (ap₂ (λ (b : ℕ) (t : List ℕ). b ∷ t)
    (ap (λ (q : ℕ). q % 256) (mul-add-div_right (pow_pos (8 * m)) (x * 256) y) ∙ mul-add-mod_self_right x 256 (y / 2 ^ (8 * m)))
    (bytes_of_low m (x * 256) y))

pub bytes_number : (s : List ℕ) → Bytes s → bytes_of (length s) (number s) ≡ s
unfolding number bytes_of
bytes_number [] h = refl
bytes_number (x ∷ s) h =
    ap₂ (λ (y : ℕ) (t : List ℕ). y ∷ t)
    (ap (λ (q : ℕ). q % 256) (high x (8 * length s) (number_lt s (bytes_tail x s h))) ∙ mod-eq_of_lt (h 0))
    (bytes_of_low (length s) x (number s) ∙ bytes_number s (bytes_tail x s h))

pub number_bytes_of : (m v : ℕ) → number (bytes_of m v) ≡ v % 2 ^ (8 * m)
number_bytes_of zero v = rw (bytes_of_zero, number_nil) (sym (mod-one v))
number_bytes_of (suc m) v =
    rw (bytes_of_suc, number_cons, length_bytes_of, number_bytes_of m v)
    (sym (ap (λ (e : ℕ). v % 2 ^ e) (omega arith) ∙ mod-pow-add v 8 (8 * m)))

-- bytes of a number that falls into a high and a low part
pub bytes_of_append : (a b x y : ℕ) → y < 2 ^ (8 * b) → bytes_of (a + b) (x * 2 ^ (8 * b) + y) ≡ bytes_of a x ++ bytes_of b y
bytes_of_append zero b x y h = rw (zero-add, bytes_of_zero) (bytes_of_low b x y)
bytes_of_append (suc a) b x y h =
    rw (suc-add, bytes_of_suc, bytes_of_suc a x)
    (ap₂ (λ (q : ℕ) (t : List ℕ). q ∷ t)
    (ap (λ (q : ℕ). q % 256)
    (ap (λ (e : ℕ). (x * 2 ^ (8 * b) + y) / 2 ^ e) (omega arith)
    ∙ sym (shr-shr (x * 2 ^ (8 * b) + y) (8 * b) (8 * a))
    ∙ ap (λ (q : ℕ). q / 2 ^ (8 * a)) (high x (8 * b) h)))
    (bytes_of_append a b x y h))

-- ---- the library's bytes

byte_pow : (k : ℕ) → 256 ^ k ≡ 2 ^ (8 * k)
byte_pow zero = refl
byte_pow (suc k) = pow-suc 256 k ∙ rw (pow_byte, byte_pow k) (mul_comm (2 ^ (8 * k)) 256)

byte_high : (k v : ℕ) → byte_at k v ≡ v / 2 ^ (8 * k) % 256
byte_high zero v = ap (λ (q : ℕ). q % 256) (sym (div-one v))
byte_high (suc k) v = ap (λ (p : ℕ). v / p % 256) (byte_pow (suc k))

pub high_first : (m v : ℕ) → bytes_high_first m v ≡ bytes_of m v
unfolding bytes_of
high_first zero v = refl
high_first (suc m) v = ap₂ (λ (b : ℕ) (t : List ℕ). b ∷ t) (byte_high m v) (high_first m v)

-- behind the first j bytes of a number stand its others
pub bytes_behind : (j m v : ℕ) → drop j (bytes_of (j + m) v) ≡ bytes_of m v
bytes_behind zero m v = rw (zero-add) refl
bytes_behind (suc j) m v = rw (suc-add, bytes_of_suc) (bytes_behind j m v)
