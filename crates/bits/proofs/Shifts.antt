-- What shifts and masks of a word of w bits are in plain arithmetic, over the width and the count.
use Prim.Native.Nat.{ℕ, ◌+◌, ◌-◌, ◌*◌, ◌%◌, ◌^◌, ◌<◌}
use mathlib.Core.Path.{◌≡◌, sym, ap, ◌∙◌, subst}
use native.Mathlib.Nat.{mod-eq_of_lt, one-mul}
use lib.Arith.{digits_lt}
use lib.Pow.{pow-lt, pow-add}
use lib.Bits.{bit_and, bit_or, and_mask, or_shifted}

-- `1 << k`
one_shl : (w k : ℕ) → k < w → (1 * 2 ^ k) % 2 ^ w ≡ 2 ^ k
one_shl w k h = ap (λ (n : ℕ). n % 2 ^ w) (one-mul (2 ^ k)) ∙ mod-eq_of_lt (pow-lt h)

-- `x & ((1 << k) - 1)`: the k low bits
pub mask_law : (w k x : ℕ) → k < w → bit_and x ((1 * 2 ^ k) % 2 ^ w - 1) ≡ x % 2 ^ k
mask_law w k x h = ap (λ (n : ℕ). bit_and x (n - 1)) (one_shl w k h) ∙ and_mask x k

-- `(x << k) | v`: k bits v behind x, where there is room
pub append_law : (w k x v : ℕ) → x * 2 ^ k < 2 ^ w → v < 2 ^ k → bit_or ((x * 2 ^ k) % 2 ^ w) v ≡ x * 2 ^ k + v
append_law w k x v hx hv = ap (λ (n : ℕ). bit_or n v) (mod-eq_of_lt hx) ∙ or_shifted x k v hv

-- which has k bits more than x
pub append_lt : (j k x v : ℕ) → x < 2 ^ j → v < 2 ^ k → x * 2 ^ k + v < 2 ^ (j + k)
append_lt j k x v hx hv = subst (λ (n : ℕ). x * 2 ^ k + v < n) (sym (pow-add 2 j k)) (digits_lt hx hv)
