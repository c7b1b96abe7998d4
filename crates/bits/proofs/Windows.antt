-- The few bytes that hold a field: got as one number (`field_window`), and put back as one (`put_bytes`).
use Prim.Native.Nat.{ℕ, suc, ◌+◌, ◌-◌, ◌*◌, ◌/◌, ◌%◌, ◌^◌, ◌≤◌, ◌<◌}
use mathlib.Core.Path.{◌≡◌, sym, ap, ap₂, ◌∙◌, subst}
use mathlib.Core.List.{List, [], ◌∷◌, ◌++◌, append_assoc}
use native.Mathlib.Nat.{mod-lt, div-one, mul_assoc, mul-add-mod_self_right, mul-add-div_right, lt_of_lt_of_le}
use native.Mathlib.Numerals.{add-one}
use native.Mathlib.Omega.{arith}
use lib.ListN.{length, take, drop, get_or, length-drop, length-take, take-append-drop}
use lib.Seq.{take_all, take-suc, length-take-le, take-add, drop-drop, sets, sets-eq}
use lib.Pow.{pow_pos, pow-add, pow_mono, shl_lt}
use Rattle.std.specs.Int.{w32, to_be_bytes}
use Rattle.rules.specs.Bits.{number, first_bits, field_at, bytes_for, bytes_of, packed}
use Rattle.bits.specs.Writing.{Bytes, written, put_at}
use Rattle.bits.proofs.Bytes.{high_first, bytes_behind, number_one, number_append, number_lt, drop_bytes, take_bytes, bytes_number, bytes_of_append, length_bytes_of}
use Rattle.bits.proofs.Fields.{first_append}

-- ---- bytes as one number

-- one byte more
pub front_step : (s : List ℕ) (i : ℕ) → i < length s → number (take (i + 1) s) ≡ number (take i s) * 2 ^ 8 + get_or s i 0
front_step s i h =
    ap (λ (n : ℕ). number (take n s)) (add-one i)
    ∙ ap number (take-suc s i 0 h)
    ∙ number_append (take i s) (get_or s i 0 ∷ [])
    ∙ ap (λ (n : ℕ). number (take i s) * 2 ^ 8 + n) (number_one (get_or s i 0))

-- at most n bytes are below 2 ^ (8 * n)
pub front_lt : (s : List ℕ) (i n : ℕ) → Bytes s → i ≤ n → number (take i s) < 2 ^ (8 * n)
front_lt s i n hs h =
    let l : 8 * length (take i s) ≤ 8 * n = omega (arith, length-take i s) in
    lt_of_lt_of_le (number_lt (take i s) (take_bytes i s hs)) (pow_mono l)

-- ---- out of bytes

-- the first e bits lie in the first `to` bytes
first_take : (s : List ℕ) (to e : ℕ) → Bytes s → to ≤ length s → e ≤ 8 * to → first_bits s e ≡ number (take to s) / 2 ^ (8 * to - e)
unfolding first_bits
first_take s to e hs h₁ h₂ =
    let l : length (take to s) ≡ to = length-take-le to s h₁ in
    ap (λ (x : List ℕ). first_bits x e) (sym (take-append-drop to s))
    ∙ first_append (take to s) (drop to s) e (drop_bytes to s hs) (rw l h₂)
    ∙ ap (λ (n : ℕ). number (take to s) / 2 ^ (8 * n - e)) l

-- a field from n bytes up to byte `to` that hold it
pub field_window : (s : List ℕ) (p k from n to : ℕ) → Bytes s → to ≡ from + n → to ≤ length s → 8 * from ≤ p → p + k ≤ 8 * to
    → number (take n (drop from s)) / 2 ^ (8 * to - (p + k)) % 2 ^ k ≡ field_at s p k
unfolding field_at
field_window s p k from n to hs h h₁ h₂ h₃ =
    let w : List ℕ = take n (drop from s) in
    let a : List ℕ = take from s in
    let e : ℕ = 8 * to - (p + k) in
    let j : ℕ = p - 8 * from in
    let lw : length w ≡ n = length-take-le n (drop from s) (rw length-drop (omega arith)) in
    let parts : take to s ≡ a ++ w = ap (λ (x : ℕ). take x s) h ∙ take-add from n s in
    let first : first_bits s (p + k) ≡ (number a * 2 ^ (8 * length w) + number w) / 2 ^ e =
    first_take s to (p + k) hs h₁ h₃ ∙ ap (λ (x : List ℕ). number x / 2 ^ e) parts ∙ ap (λ (x : ℕ). x / 2 ^ e) (number_append a w) in
    let bits : 8 * length w ≡ j + k + e = omega (arith, lw) in
    let up : number a * 2 ^ (8 * length w) ≡ number a * 2 ^ j * 2 ^ k * 2 ^ e =
    rw (bits, pow-add, pow-add) (omega arith) in
    sym
    (ap (λ (q : ℕ). q % 2 ^ k)
    (first ∙ ap (λ (q : ℕ). (q + number w) / 2 ^ e) up ∙ mul-add-div_right (pow_pos e) (number a * 2 ^ j * 2 ^ k) (number w))
    ∙ mul-add-mod_self_right (number a * 2 ^ j) (2 ^ k) (number w / 2 ^ e))

-- k bits, at most 32, are a u32
pub field_fits : (k x : ℕ) {v : ℕ} → k ≤ 32 → v ≡ x % 2 ^ k → v < 2 ^ 32
field_fits k x h e = subst (λ (n : ℕ). n < 2 ^ 32) (sym e) (lt_of_lt_of_le (mod-lt x (pow_pos k)) (pow_mono h))

-- ---- into bytes

-- the first bits of whole bytes
first_bytes : (d : List ℕ) (from : ℕ) → Bytes d → from ≤ length d → first_bits d (8 * from) ≡ number (take from d)
first_bytes d from hd h =
    let none : 8 * from - 8 * from ≡ 0 = omega arith in
    first_take d from (8 * from) hd h (omega arith)
    ∙ ap (λ (e : ℕ). number (take from d) / 2 ^ e) none ∙ div-one (number (take from d))

-- the first bits, by whole bytes and the bits of the byte that they end in
pub first_byte : (d : List ℕ) (from u : ℕ) → Bytes d → from < length d → u ≤ 8
    → first_bits d (8 * from + u) ≡ first_bits d (8 * from) * 2 ^ u + get_or d from 0 / 2 ^ (8 - u)
first_byte d from u hd h₁ h₂ =
    let b : ℕ = get_or d from 0 in
    let a : List ℕ = take from d in
    let whole : number (take (suc from) d) ≡ number a * 2 ^ 8 + b =
    ap number (take-suc d from 0 h₁) ∙ number_append a (b ∷ []) ∙ ap (λ (n : ℕ). number a * 2 ^ 8 + n) (number_one b) in
    let e : 8 * suc from - (8 * from + u) ≡ 8 - u = omega arith in
    let eight : 8 ≡ u + (8 - u) = omega arith in
    let up : number a * 2 ^ 8 ≡ number a * 2 ^ u * 2 ^ (8 - u) =
    ap (λ (n : ℕ). number a * n) (ap (λ (n : ℕ). 2 ^ n) eight ∙ pow-add 2 u (8 - u)) ∙ sym (mul_assoc (number a) (2 ^ u) (2 ^ (8 - u))) in
    first_take d (suc from) (8 * from + u) hd h₁ (omega arith)
    ∙ ap₂ (λ (n x : ℕ). n / 2 ^ x) whole e
    ∙ ap (λ (n : ℕ). (n + b) / 2 ^ (8 - u)) up
    ∙ mul-add-div_right (pow_pos (8 - u)) (number a * 2 ^ u) b
    ∙ ap (λ (n : ℕ). n * 2 ^ u + b / 2 ^ (8 - u)) (sym (first_bytes d from hd (omega arith)))

-- the last n of the four bytes that spell x
pub last_bytes : (n x from v : ℕ) {l : List ℕ} → n ≤ 4 → l ≡ to_be_bytes w32 v → v ≡ x → from ≡ 4 - n → take (4 - from) (drop from l) ≡ bytes_of n x
last_bytes n x from v h e same place =
    let k : 4 - from ≡ n = omega arith in
    let all : 4 ≡ from + n = omega arith in
    ap₂ (λ (i : ℕ) (t : List ℕ). take i (drop from t)) k (e ∙ high_first 4 v ∙ ap₂ bytes_of all same)
    ∙ ap (take n) (bytes_behind from n x)
    ∙ take_all n (bytes_of n x) (omega (arith, length_bytes_of n x))

-- at most 32 bits, with zero bits behind them to a whole byte, are a u32
pub whole_fits : (k v : ℕ) {x : ℕ} → k ≤ 32 → v < 2 ^ k → x ≡ v * 2 ^ (8 * ((k + 7) / 8) - k) + 0 → x < 2 ^ 32
whole_fits k v h hv e =
    let f : ℕ = 8 * ((k + 7) / 8) - k in
    let bits : k + f ≤ 32 = omega arith in
    let small : v * 2 ^ f < 2 ^ 32 = lt_of_lt_of_le (shl_lt k f hv) (pow_mono bits) in
    omega (arith, e, small)

-- n bytes from byte `at` on, lent and given back as those that spell x
pub part_put : (d ys : List ℕ) (at n x : ℕ) → at + n ≤ length d → ys ≡ bytes_of (length (take (at + n - at) (drop at d))) x
    → take at d ++ (ys ++ drop (at + n - at) (drop at d)) ≡ sets d at (bytes_of n x)
part_put d ys at n x h e =
    let k : at + n - at ≡ n = omega arith in
    let l : length (take n (drop at d)) ≡ n = length-take-le n (drop at d) (rw length-drop (omega arith)) in
    let same : ys ≡ bytes_of n x = e ∙ ap (λ (i : ℕ). bytes_of (length (take i (drop at d))) x) k ∙ ap (λ (i : ℕ). bytes_of i x) l in
    ap₂ (λ (b : List ℕ) (i : ℕ). take at d ++ (b ++ drop i (drop at d))) same k
    ∙ ap (λ (r : List ℕ). take at d ++ (bytes_of n x ++ r)) (drop-drop n at d)
    ∙ sym (append_assoc (take at d) (bytes_of n x) (drop (at + n) d))
    ∙ sym (sets-eq (bytes_of n x) d at (omega (arith, length_bytes_of n x)) ∙ ap (λ (i : ℕ). take at d ++ bytes_of n x ++ drop (at + i) d) (length_bytes_of n x))

-- Bits put from a whole byte on change the n bytes that hold them alone, and the last of these ends in zero bits.
pub put_bytes : (d : List ℕ) (from k v : ℕ) → Bytes d → v < 2 ^ k → 8 * from + k ≤ 8 * length d
    → let n : ℕ = (k + 7) / 8 in
    sets d from (bytes_of n (v * 2 ^ (8 * n - k))) ≡ put_at d (8 * from) k v
unfolding put_at written packed bytes_for
put_bytes d from k v hd hv room =
    let n : ℕ = (k + 7) / 8 in
    let f : ℕ = 8 * n - k in
    let X : ℕ = number (take from d) in
    let y : ℕ = v * 2 ^ f in
    let ln : length (bytes_of n y) ≡ n = length_bytes_of n y in
    let la : length (take from d) ≡ from = length-take-le from d (omega arith) in
    let bt : (8 * from + k + 7) / 8 ≡ from + n = omega arith in
    let ef : 8 * ((8 * from + k + 7) / 8) - (8 * from + k) ≡ f = omega arith in
    let bits : k + f ≡ 8 * n = omega arith in
    let hy : y < 2 ^ (8 * n) = subst (λ (e : ℕ). y < 2 ^ e) bits (shl_lt k f hv) in
    let up : 2 ^ (8 * n) ≡ 2 ^ k * 2 ^ f = ap (λ (e : ℕ). 2 ^ e) (sym bits) ∙ pow-add 2 k f in
    let value : (first_bits d (8 * from) * 2 ^ k + v) * 2 ^ f ≡ X * 2 ^ (8 * n) + y =
    rw (first_bytes d from hd (omega arith), up) (omega arith) in
    let front : bytes_of from X ≡ take from d = ap (λ (e : ℕ). bytes_of e X) (sym la) ∙ bytes_number (take from d) (take_bytes from d hd) in
    let bytes : bytes_of (from + n) ((first_bits d (8 * from) * 2 ^ k + v) * 2 ^ f) ≡ take from d ++ bytes_of n y =
    ap (bytes_of (from + n)) value ∙ bytes_of_append from n X y hy ∙ ap (λ (l : List ℕ). l ++ bytes_of n y) front in
    sets-eq (bytes_of n y) d from (omega (arith, ln))
    ∙ ap (λ (e : ℕ). take from d ++ bytes_of n y ++ drop (from + e) d) ln
    ∙ sym
    (ap₂ (λ (e g : ℕ). bytes_of e ((first_bits d (8 * from) * 2 ^ k + v) * 2 ^ g) ++ drop e d) bt ef
    ∙ ap (λ (l : List ℕ). l ++ drop (from + n) d) bytes)
