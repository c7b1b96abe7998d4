-- Fields that stand in a file one behind another: a file that is their stored form has them (`encoded_stand`), and a file that has them, no
-- longer than they need and with zero filling bits, is their stored form (`stand_encoded`).
use Prim.Native.Nat.{ℕ, zero, suc, ◌+◌, ◌-◌, ◌*◌, ◌/◌, ◌%◌, ◌^◌, ◌≤◌, ◌<◌}
use mathlib.Core.Path.{◌≡◌, refl, sym, ap, ap₂, ◌∙◌, subst}
use mathlib.Core.List.{List, [], ◌∷◌, ◌++◌}
use native.Mathlib.Nat.{add_assoc, add-zero, zero-add, mul-zero, mul-suc}
use native.Mathlib.Omega.{arith}
use lib.ListN.{length, get_or}
use lib.Dec.{lit<}
use lib.Pow.{pow_pos, pow-add, split, high, low}
use Rattle.rules.specs.Bits.{number, first_bits, field_at, table_at, Field, bits_in, spelled, bytes_for, filling, bytes_of, packed, encode}
use Rattle.rules.specs.StoredForm.{table_fields}
use Rattle.bits.specs.Writing.{Bytes, Fit}
use Rattle.bits.proofs.Shifts.{append_lt}
use Rattle.bits.proofs.Bytes.{bytes_number}
use Rattle.bits.proofs.Fields.{first_shr, first_split, first_none, first_packed, bytes_for_ge, length_packed, number_packed, packed_bytes}

-- ---- lists of fields

pub bits_in_cons : (f : Field) (fs : List Field) → bits_in (f ∷ fs) ≡ f.width + bits_in fs
unfolding bits_in
bits_in_cons f fs = refl

pub bits_in_append : (fs gs : List Field) → bits_in (fs ++ gs) ≡ bits_in fs + bits_in gs
unfolding bits_in
bits_in_append [] gs = sym (zero-add (bits_in gs))
bits_in_append (f ∷ fs) gs = ap (λ (x : ℕ). f.width + x) (bits_in_append fs gs) ∙ sym (add_assoc f.width (bits_in fs) (bits_in gs))

pub bits_in_table : (w : ℕ) (t : List ℕ) → bits_in (table_fields w t) ≡ w * length t
unfolding bits_in table_fields
bits_in_table w [] = sym (mul-zero w)
bits_in_table w (v ∷ t) = ap (λ (x : ℕ). w + x) (bits_in_table w t) ∙ rw mul-suc (omega arith)

spelled_cons : (f : Field) (fs : List Field) → spelled (f ∷ fs) ≡ f.value * 2 ^ bits_in fs + spelled fs
unfolding spelled
spelled_cons f fs = refl

pub spelled_lt : (fs : List Field) → Fit fs → spelled fs < 2 ^ bits_in fs
unfolding spelled bits_in
spelled_lt [] h = lit< tt
spelled_lt (f ∷ fs) h = append_lt f.width (bits_in fs) f.value (spelled fs) h.0 (spelled_lt fs h.1)

pub fit_append : (fs gs : List Field) → Fit fs → Fit gs → Fit (fs ++ gs)
fit_append [] gs h l = l
fit_append (f ∷ fs) gs h l = (h.0, fit_append fs gs h.1 l)

pub fit_table : (w : ℕ) (t : List ℕ) → ((i : ℕ) → get_or t i 0 < 2 ^ w) → Fit (table_fields w t)
unfolding table_fields
fit_table w [] h = tt
fit_table w (v ∷ t) h = (h 0, fit_table w t (λ i. h (suc i)))

pub length_encode : (fs : List Field) → length (encode fs) ≡ bytes_for (bits_in fs)
unfolding encode
length_encode fs = length_packed (bits_in fs) (spelled fs)

-- a stored form is a list of bytes
pub encode_bytes : (fs : List Field) → Bytes (encode fs)
unfolding encode
encode_bytes fs = packed_bytes (bits_in fs) (spelled fs)

-- the filling bits of a stored form are zero
pub encode_filling : (fs : List Field) → Fit fs → number (encode fs) % 2 ^ filling (bits_in fs) ≡ 0
unfolding encode
encode_filling fs fit =
    let f : ℕ = filling (bits_in fs) in
    ap (λ (x : ℕ). x % 2 ^ f) (number_packed (bits_in fs) (spelled fs) (spelled_lt fs fit) ∙ sym (add-zero (spelled fs * 2 ^ f)))
    ∙ low (spelled fs) f (pow_pos f)

-- ---- fields that stand in a file from bit p on

abbrev pub Stand : List ℕ → ℕ → List Field → Type 0
Stand s p [] = Unit {0}
Stand s p (f ∷ fs) = (field_at s p f.width ≡ f.value) × Stand s (p + f.width) fs

pub stand_append : (fs gs : List Field) (s : List ℕ) (p : ℕ) → Stand s p fs → Stand s (p + bits_in fs) gs → Stand s p (fs ++ gs)
unfolding bits_in
stand_append [] gs s p h l = subst (λ (q : ℕ). Stand s q gs) (add-zero p) l
stand_append (f ∷ fs) gs s p h l =
    (h.0, stand_append fs gs s (p + f.width) h.1 (subst (λ (q : ℕ). Stand s q gs) (sym (add_assoc p f.width (bits_in fs))) l))

pub stand_parts : (fs gs : List Field) (s : List ℕ) (p : ℕ) → Stand s p (fs ++ gs) → Stand s p fs × Stand s (p + bits_in fs) gs
unfolding bits_in
stand_parts [] gs s p h = (tt, subst (λ (q : ℕ). Stand s q gs) (sym (add-zero p)) h)
stand_parts (f ∷ fs) gs s p h =
    let r = stand_parts fs gs s (p + f.width) h.1 in
    ((h.0, r.0), subst (λ (q : ℕ). Stand s q gs) (add_assoc p f.width (bits_in fs)) r.1)

-- a table that was read stands there, and a table that stands there is read
pub table_stands : (s : List ℕ) (p w n : ℕ) → Stand s p (table_fields w (table_at s p w n))
unfolding table_fields table_at
table_stands s p w zero = tt
table_stands s p w (suc n) = (refl, table_stands s (p + w) w n)

pub standing_table : (t s : List ℕ) (p w : ℕ) → Stand s p (table_fields w t) → table_at s p w (length t) ≡ t
unfolding table_fields table_at
standing_table [] s p w h = refl
standing_table (v ∷ t) s p w h = ap₂ (λ (x : ℕ) (l : List ℕ). x ∷ l) h.0 (standing_table t s (p + w) w h.1)

-- ---- the round trips

-- Where the first bits of a file are a, and behind that what fs spell, fs stand there.
spelled_stand : (fs : List Field) (s : List ℕ) (p a : ℕ) → Fit fs → p + bits_in fs ≤ 8 * length s
    → first_bits s (p + bits_in fs) ≡ a * 2 ^ bits_in fs + spelled fs → Stand s p fs
unfolding field_at
spelled_stand [] s p a fit h e = tt
spelled_stand (f ∷ fs) s p a fit h e =
    let k : ℕ = f.width in
    let n : ℕ = bits_in fs in
    let room : p + k + n ≤ 8 * length s = omega (arith, bits_in_cons f fs) in
    let whole : first_bits s (p + k + n) ≡ (a * 2 ^ k + f.value) * 2 ^ n + spelled fs =
    ap (first_bits s) (omega (arith, bits_in_cons f fs)) ∙ e ∙ rw (bits_in_cons, spelled_cons, pow-add) (omega arith) in
    let head : first_bits s (p + k) ≡ a * 2 ^ k + f.value =
    sym (first_shr s (p + k) n room) ∙ ap (λ (q : ℕ). q / 2 ^ n) whole ∙ high (a * 2 ^ k + f.value) n (spelled_lt fs fit.1) in
    (ap (λ (q : ℕ). q % 2 ^ k) head ∙ low a k fit.0, spelled_stand fs s (p + k) (a * 2 ^ k + f.value) fit.1 room whole)

-- Fields that have their widths stand in their stored form.
pub encoded_stand : (fs : List Field) → Fit fs → Stand (encode fs) 0 fs
unfolding encode
encoded_stand fs fit =
    let n : ℕ = bits_in fs in
    spelled_stand fs (encode fs) 0 0 fit
    (rw length_encode (omega (arith, bytes_for_ge n)))
    (ap (first_bits (encode fs)) (zero-add n) ∙ first_packed n (spelled fs) (spelled_lt fs fit) ∙ omega arith)

-- The first bits up to the end of fields that stand in a file.
stand_first : (fs : List Field) (s : List ℕ) (p : ℕ) → Stand s p fs → p + bits_in fs ≤ 8 * length s
    → first_bits s (p + bits_in fs) ≡ first_bits s p * 2 ^ bits_in fs + spelled fs
unfolding bits_in spelled
stand_first [] s p h room = ap (first_bits s) (add-zero p) ∙ omega arith
stand_first (f ∷ fs) s p h room =
    let k : ℕ = f.width in
    let n : ℕ = bits_in fs in
    ap (first_bits s) (sym (add_assoc p k n))
    ∙ stand_first fs s (p + k) h.1 (omega arith)
    ∙ rw (first_split s p k (omega arith), h.0, pow-add) (omega arith)

-- Bytes in which fields stand, of the length that they call for and with zero filling bits, are the stored form of the fields.
pub stand_encoded : (fs : List Field) (s : List ℕ) → Bytes s → Stand s 0 fs → length s ≡ bytes_for (bits_in fs)
    → number s % 2 ^ filling (bits_in fs) ≡ 0 → encode fs ≡ s
unfolding encode packed first_bits
stand_encoded fs s hs h len zeros =
    let n : ℕ = bits_in fs in
    let f : ℕ = filling n in
    let room : 0 + n ≤ 8 * length s = rw len (omega (arith, bytes_for_ge n)) in
    let value : spelled fs ≡ number s / 2 ^ f =
    sym (ap (first_bits s) (sym (zero-add n)) ∙ stand_first fs s 0 h room ∙ rw (first_none s hs) (omega arith))
    ∙ ap (λ (l : ℕ). number s / 2 ^ (8 * l - n)) len in
    let whole : number s / 2 ^ f * 2 ^ f ≡ number s = omega (arith, split (number s) f, zeros) in
    ap (packed n) value ∙ ap₂ bytes_of (sym len) whole ∙ bytes_number s hs
