-- Bits that wait to be put: taken from the buffer (`pend_same`), joined with more (`put_put`), and the first 32 put (`put_first`). Then the
-- entries of a table, put through them one behind another (`Putting`).
use Prim.Native.Nat.{ℕ, ◌+◌, ◌-◌, ◌*◌, ◌/◌, ◌%◌, ◌^◌, ◌≤◌, ◌<◌}
use mathlib.Core.Path.{◌≡◌, refl, sym, ap, ap₂, ◌∙◌, subst}
use mathlib.Core.List.{List}
use native.Mathlib.Nat.{add_assoc, mul-zero, mul-one, div-one, mod-lt}
use native.Mathlib.Omega.{arith}
use lib.ListN.{length, take, get_or}
use lib.Seq.{sets}
use lib.Pow.{pow_pos, pow-add, shr_lt, shr_mod, recompose}
use Rattle.rules.specs.Bits.{number, first_bits, bytes_of}
use Rattle.rules.specs.StoredForm.{table_fields}
use Rattle.bits.specs.declared.pending.Pending.{Pending}
use Rattle.bits.specs.Writing.{Bytes, written, put_at, put_all, end_of, settled}
use Rattle.bits.proofs.Shifts.{append_lt}
use Rattle.bits.proofs.Bytes.{number_lt}
use Rattle.bits.proofs.Windows.{first_byte, put_bytes}
use Rattle.bits.proofs.Writing.{put_written, put_none, put_step}

-- ---- bits behind bits

first_lt : (d : List ℕ) (p : ℕ) → Bytes d → p ≤ 8 * length d → first_bits d p < 2 ^ p
unfolding first_bits
first_lt d p hd h =
    let bits : 8 * length d ≡ p + (8 * length d - p) = omega arith in
    shr_lt p (8 * length d - p) (subst (λ (e : ℕ). number d < 2 ^ e) bits (number_lt d hd))

-- one field put behind another is one field
pub put_put : (d : List ℕ) (p j x k y : ℕ) → Bytes d → p ≤ 8 * length d → x < 2 ^ j
    → put_at (put_at d p j x) (p + j) k y ≡ put_at d p (j + k) (x * 2 ^ k + y)
unfolding put_at
put_put d p j x k y hd h hx =
    let F : ℕ = first_bits d p in
    put_written d (p + j) (F * 2 ^ j + x) k y hd (append_lt p j F x (first_lt d p hd h) hx)
    ∙ ap₂ (written d) (add_assoc p j k) (rw pow-add (omega arith))

-- the bits of a byte that stand before bit `at`, cut out of it: what is put behind them is put behind the first `at` bits
pub pend_same : (d : List ℕ) (at k v : ℕ) → Bytes d → at < 8 * length d
    → let u : ℕ = at % 8 in
    put_at (put_at d (8 * (at / 8)) u (get_or d (at / 8) 0 / 2 ^ (8 - u) % 2 ^ u)) at k v ≡ put_at d at k v
unfolding put_at
pend_same d at k v hd h =
    let from : ℕ = at / 8 in
    let u : ℕ = at % 8 in
    let eight : 8 ≡ u + (8 - u) = omega arith in
    let here : 8 * from + u ≡ at = omega arith in
    let first : first_bits d (8 * from) * 2 ^ u + get_or d from 0 / 2 ^ (8 - u) % 2 ^ u ≡ first_bits d at =
    ap (λ (x : ℕ). first_bits d (8 * from) * 2 ^ u + x) (shr_mod u (8 - u) (subst (λ (n : ℕ). get_or d from 0 < 2 ^ n) eight (hd from)))
    ∙ sym (first_byte d from u hd (omega arith) (omega arith)) ∙ ap (first_bits d) here in
    ap (λ (l : List ℕ). put_at l at k v) (ap₂ (written d) here first)
    ∙ put_written d at (first_bits d at) k v hd (first_lt d at hd (omega arith))

-- k bits of v behind those that wait: they are spelled together, and put as one field they are put one behind the other
pub record Joined (d : List ℕ) (p : Pending) (k v bits : ℕ) : Type 0 where
  pub small : bits < 2 ^ (p.count + k)
  pub one : put_at d (8 * p.at) (p.count + k) bits ≡ put_at (settled d p) (end_of p) k v

pub joined : (d : List ℕ) (p : Pending) (k v bits : ℕ) → Bytes d → v < 2 ^ k → end_of p ≤ 8 * length d → bits ≡ p.bits * 2 ^ k + v
    → Joined d p k v bits
joined d p k v bits hd hv room e = record {
  small = subst (λ (n : ℕ). n < 2 ^ (p.count + k)) (sym e) (append_lt p.count k p.bits v p.spelled hv);
  one = ap (put_at d (8 * p.at) (p.count + k)) e ∙ sym (put_put d (8 * p.at) p.count p.bits k v hd (omega arith) p.spelled);
}

-- of more than 32 bits, the first 32 put and the others waiting
pub put_first : (d : List ℕ) (at count x : ℕ) → Bytes d → 32 < count → 8 * at + count ≤ 8 * length d → x < 2 ^ count
    → let left : ℕ = count - 32 in
    put_at (sets d at (bytes_of 4 (x / 2 ^ left % 2 ^ 32))) (8 * (at + 4)) left (x / 2 ^ 0 % 2 ^ left) ≡ put_at d (8 * at) count x
put_first d at count x hd hc room hx =
    let left : ℕ = count - 32 in
    let high : ℕ = x / 2 ^ left % 2 ^ 32 in
    let h : high < 2 ^ 32 = mod-lt (x / 2 ^ left) (pow_pos 32) in
    let bits : count ≡ 32 + left = omega arith in
    let there : 8 * (at + 4) ≡ 8 * at + 32 = omega arith in
    let four : sets d at (bytes_of 4 high) ≡ put_at d (8 * at) 32 high =
    ap (λ (y : ℕ). sets d at (bytes_of 4 y)) (sym (mul-one high)) ∙ put_bytes d at 32 high hd h (omega arith) in
    ap (λ (l : List ℕ). put_at l (8 * (at + 4)) left (x / 2 ^ 0 % 2 ^ left)) four
    ∙ ap₂ (λ (p y : ℕ). put_at (put_at d (8 * at) 32 high) p left (y % 2 ^ left)) there (div-one x)
    ∙ put_put d (8 * at) 32 high left (x % 2 ^ left) hd (omega arith) h
    ∙ ap₂ (put_at d (8 * at)) (sym bits) (recompose 32 left (subst (λ (e : ℕ). x < 2 ^ e) bits hx))

-- ---- the entries of a table

-- after i entries of T, w bits each, put from bit `at` of d₀ on, the buffer is d and p waits
pub record Putting (d₀ : List ℕ) (at w : ℕ) (T d : List ℕ) (p : Pending) (i : ℕ) : Type 0 where
  pub end : end_of p ≡ at + w * i
  pub long : length d ≡ length d₀
  -- what is put next is put behind the first i entries
  pub next : (k v : ℕ) → put_at (settled d p) (end_of p) k v ≡ put_at (put_all d₀ at (table_fields w (take i T))) (at + w * i) k v
  -- once there is one, they are what the buffer and the waiting bits make
  pub some : 0 < i → settled d p ≡ put_all d₀ at (table_fields w (take i T))

-- no entry yet: p waits before bit `at` (`Pending::before`)
pub put_start : (d : List ℕ) (at w : ℕ) (T : List ℕ) (p : Pending) → end_of p ≡ at
    → ((k v : ℕ) → put_at (settled d p) at k v ≡ put_at d at k v) → Putting d at w T d p 0
put_start d at w T p end next =
    let none : at + w * 0 ≡ at = omega (arith, mul-zero w) in
    record {
      end = end ∙ sym none;
      long = refl;
      next = λ k v. ap (λ (e : ℕ). put_at (settled d p) e k v) end ∙ next k v
          ∙ ap₂ (λ (l : List ℕ) (e : ℕ). put_at l e k v) (put_none d T at w) (sym none);
      some = λ h. absurd (omega arith);
    }

-- one entry more, put behind what waits (`Pending::put`)
pub put_turn : {d₀ d e T : List ℕ} {at w i : ℕ} {p r : Pending} (v : ℕ) → Putting d₀ at w T d p i → i < length T → v ≡ get_or T i 0
    → end_of r ≡ end_of p + w → settled e r ≡ put_at (settled d p) (end_of p) w v → length e ≡ length d
    → Putting d₀ at w T e r (i + 1)
put_turn {d₀} {d} {e} {T} {at} {w} {i} {p} {r} v h l entry end is long =
    let there : end_of r ≡ at + w * (i + 1) = omega (arith, end, h.end) in
    let now : settled e r ≡ put_all d₀ at (table_fields w (take (i + 1) T)) =
    is ∙ h.next w v ∙ ap (put_at (put_all d₀ at (table_fields w (take i T))) (at + w * i) w) entry ∙ put_step d₀ T at w i l in
    record {
      end = there;
      long = long ∙ h.long;
      next = λ k x. ap₂ (λ (b : List ℕ) (q : ℕ). put_at b q k x) now there;
      some = λ _. now;
    }
