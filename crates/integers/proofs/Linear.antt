-- Linear arithmetic over ℤ by reflection into ℕ, in two ways.
-- 1. `omega ints` reads orders and equations of whole numbers; a sum's parts are listed, `omega (ints, add_parts x y)`.
-- 2. A whole number z is the difference of two naturals in many ways. `Dif z` holds one of them: z is p - n. `var`, `nat`, `◌⊕◌`, `◌⊖◌`, `neg`, `◌⊗◌`
--    write a term out as a `Dif`; `by_eq`, `by_le`, `by_lt` prove a statement of two terms by one over ℕ, and `of_eq`, `of_le`, `of_lt` use one.
--    `omega arith` proves what is over ℕ, and multiplies products out, so this also serves as a ring tactic for ℕ acting on ℤ.
use mathlib.Core.Path.{◌≡◌, refl, sym, ◌∙◌, ap}
use mathlib.Core.Bool.{Bool, true, false, not, cond}
use Prim.Native.Nat.{ℕ, zero, suc, ◌+◌, ◌*◌, ◌-◌, ◌≤◌, ◌<◌}
use native.Mathlib.Omega.{arith}
use native.Mathlib.Nat.{mul-zero}
use lib.IntN.{ℤ, pos, negsuc, neg_ℤ, sub_ℕ, ◌+ℤ◌, ◌-ℤ◌, ◌*ℤ◌}
use lib.Signed.{◌≤ℤ◌, ◌<ℤ◌, le_z_yes, lt_z_yes}
use lib.Dec.{T, ltb, ltb→lt, lt→ltb, leb→le, le→leb, nltb→le}

-- the part of z above zero, and the part below
abbrev pub up : ℤ → ℕ
up (pos n) = n
up (negsuc n) = zero

abbrev pub dn : ℤ → ℕ
dn (pos n) = zero
dn (negsuc n) = suc n

-- z is p - n
pub record Dif (z : ℤ) : Type 0 where
  pub p : ℕ
  pub n : ℕ
  pub is : up z + n ≡ dn z + p

-- ---- the order and equality of two numbers, by their parts

pub le_parts : (x y : ℤ) → x ≤ℤ y → up x + dn y ≤ up y + dn x
le_parts (pos a) (pos b) h = omega (arith, leb→le a b h.le)
le_parts (pos a) (negsuc b) h = absurd h.le
le_parts (negsuc a) (pos b) h = omega arith
le_parts (negsuc a) (negsuc b) h = omega (arith, leb→le b a h.le)

pub parts_le : (x y : ℤ) → up x + dn y ≤ up y + dn x → x ≤ℤ y
parts_le (pos a) (pos b) h = le_z_yes (le→leb a b (omega arith))
parts_le (pos a) (negsuc b) h = absurd (omega arith)
parts_le (negsuc a) (pos b) h = le_z_yes tt
parts_le (negsuc a) (negsuc b) h = le_z_yes (le→leb b a (omega arith))

pub lt_parts : (x y : ℤ) → x <ℤ y → up x + dn y < up y + dn x
lt_parts (pos a) (pos b) h = omega (arith, ltb→lt a b h.lt)
lt_parts (pos a) (negsuc b) h = absurd h.lt
lt_parts (negsuc a) (pos b) h = omega arith
lt_parts (negsuc a) (negsuc b) h = omega (arith, ltb→lt b a h.lt)

pub parts_lt : (x y : ℤ) → up x + dn y < up y + dn x → x <ℤ y
parts_lt (pos a) (pos b) h = lt_z_yes (lt→ltb a b (omega arith))
parts_lt (pos a) (negsuc b) h = absurd (omega arith)
parts_lt (negsuc a) (pos b) h = lt_z_yes tt
parts_lt (negsuc a) (negsuc b) h = lt_z_yes (lt→ltb b a (omega arith))

pub parts_eq : (x y : ℤ) → up x + dn y ≡ up y + dn x → x ≡ y
parts_eq (pos a) (pos b) h = ap pos (omega arith)
parts_eq (pos a) (negsuc b) h = absurd (omega arith)
parts_eq (negsuc a) (pos b) h = absurd (omega arith)
parts_eq (negsuc a) (negsuc b) h = ap negsuc (omega arith)

pub eq_parts : (x y : ℤ) → x ≡ y → up x + dn y ≡ up y + dn x
eq_parts x y e = omega (arith, ap up e, ap dn e)

-- With these rules `omega` reads and proves orders and equations of whole numbers: `omega ints`.
-- It takes each number as an unknown. Of a sum or a multiple it knows what is listed: `omega (ints, add_parts x y, mul_parts k x)`.
pub ruleset ints = (arith, le_parts, parts_le, lt_parts, parts_lt, eq_parts, parts_eq)

-- ---- the parts of a difference, a sum, a multiple

pub cond_ind : (c : Bool) (x y : ℤ) (P : ℤ → Type 0) → (T c → P x) → (T (not c) → P y) → P (cond c x y)
cond_ind true x y P f g = f tt
cond_ind false x y P f g = g tt

sub_parts : (a b : ℕ) → up (sub_ℕ a b) + b ≡ dn (sub_ℕ a b) + a
sub_parts a b = cond_ind (ltb a b) (negsuc (b - suc a)) (pos (a - b)) (λ z. up z + b ≡ dn z + a)
    (λ t. low a b (ltb→lt a b t)) (λ t. high a b (nltb→le a b t))
  where
    low : (a b : ℕ) → a < b → 0 + b ≡ suc (b - suc a) + a
    low a b h = omega arith

    high : (a b : ℕ) → b ≤ a → a - b + b ≡ 0 + a
    high a b h = omega arith

pub add_parts : (x y : ℤ) → up (x +ℤ y) + (dn x + dn y) ≡ dn (x +ℤ y) + (up x + up y)
add_parts (pos a) (pos b) = omega arith
add_parts (pos a) (negsuc b) = omega (arith, sub_parts a (suc b))
add_parts (negsuc a) (pos b) = omega (arith, sub_parts b (suc a))
add_parts (negsuc a) (negsuc b) = omega arith

neg_up : (z : ℤ) → up (neg_ℤ z) ≡ dn z
neg_up (pos zero) = refl
neg_up (pos (suc n)) = refl
neg_up (negsuc n) = refl

neg_dn : (z : ℤ) → dn (neg_ℤ z) ≡ up z
neg_dn (pos zero) = refl
neg_dn (pos (suc n)) = refl
neg_dn (negsuc n) = refl

mul_up : (k : ℕ) (z : ℤ) → up (pos k *ℤ z) ≡ k * up z
mul_up k (pos n) = refl
mul_up k (negsuc n) = neg_up (pos (k * suc n)) ∙ sym (mul-zero k)

mul_dn : (k : ℕ) (z : ℤ) → dn (pos k *ℤ z) ≡ k * dn z
mul_dn k (pos n) = sym (mul-zero k)
mul_dn k (negsuc n) = neg_dn (pos (k * suc n))

pub mul_parts : (k : ℕ) (z : ℤ) → (up (pos k *ℤ z) ≡ k * up z) × (dn (pos k *ℤ z) ≡ k * dn z)
mul_parts k z = (mul_up k z, mul_dn k z)

-- ---- a term as a difference

-- a variable
abbrev pub var : (z : ℤ) → Dif z
var z = record { p = up z; n = dn z; is = swap (up z) (dn z) }
  where
    swap : (a b : ℕ) → a + b ≡ b + a
    swap a b = omega arith

-- a natural number
abbrev pub nat : (k : ℕ) → Dif (pos k)
nat k = record { p = k; n = 0; is = swap k }
  where
    swap : (a : ℕ) → a + 0 ≡ 0 + a
    swap a = omega arith

pub sum_is : (x y : ℤ) (p n q m : ℕ) → up x + n ≡ dn x + p → up y + m ≡ dn y + q → up (x +ℤ y) + (n + m) ≡ dn (x +ℤ y) + (p + q)
sum_is x y p n q m h k = omega (arith, add_parts x y)

pub neg_is : (x : ℤ) (p n : ℕ) → up x + n ≡ dn x + p → up (neg_ℤ x) + p ≡ dn (neg_ℤ x) + n
neg_is x p n h = omega (arith, neg_up x, neg_dn x)

pub mul_is : (k : ℕ) (x : ℤ) (p n : ℕ) → up x + n ≡ dn x + p → up (pos k *ℤ x) + k * n ≡ dn (pos k *ℤ x) + k * p
mul_is k x p n h = omega (arith, mul_up k x, mul_dn k x, ap (λ (m : ℕ). k * m) h)

infixl 6 ◌⊕◌ ◌⊖◌
infixl 7 ◌⊗◌
abbrev pub ◌⊕◌ : {x y : ℤ} → Dif x → Dif y → Dif (x +ℤ y)
◌⊕◌ {x} {y} a b = record { p = a.p + b.p; n = a.n + b.n; is = sum_is x y a.p a.n b.p b.n a.is b.is }

abbrev pub neg : {x : ℤ} → Dif x → Dif (neg_ℤ x)
neg {x} a = record { p = a.n; n = a.p; is = neg_is x a.p a.n a.is }

abbrev pub ◌⊖◌ : {x y : ℤ} → Dif x → Dif y → Dif (x -ℤ y)
◌⊖◌ a b = a ⊕ neg b

abbrev pub ◌⊗◌ : (k : ℕ) {x : ℤ} → Dif x → Dif (pos k *ℤ x)
◌⊗◌ k {x} a = record { p = k * a.p; n = k * a.n; is = mul_is k x a.p a.n a.is }

-- ---- the laws: a statement about two terms is one about their differences

-- to prove an equation or an order
pub by_eq : {x y : ℤ} (a : Dif x) (b : Dif y) → a.p + b.n ≡ b.p + a.n → x ≡ y
by_eq {x} {y} a b h = parts_eq x y (omega (arith, a.is, b.is))

pub by_le : {x y : ℤ} (a : Dif x) (b : Dif y) → a.p + b.n ≤ b.p + a.n → x ≤ℤ y
by_le {x} {y} a b h = parts_le x y (omega (arith, a.is, b.is))

pub by_lt : {x y : ℤ} (a : Dif x) (b : Dif y) → a.p + b.n < b.p + a.n → x <ℤ y
by_lt {x} {y} a b h = parts_lt x y (omega (arith, a.is, b.is))

-- to use one
pub of_eq : {x y : ℤ} (a : Dif x) (b : Dif y) → x ≡ y → a.p + b.n ≡ b.p + a.n
of_eq {x} {y} a b h = omega (arith, a.is, b.is, ap up h, ap dn h)

pub of_le : {x y : ℤ} (a : Dif x) (b : Dif y) → x ≤ℤ y → a.p + b.n ≤ b.p + a.n
of_le {x} {y} a b h = omega (arith, a.is, b.is, le_parts x y h)

pub of_lt : {x y : ℤ} (a : Dif x) (b : Dif y) → x <ℤ y → a.p + b.n < b.p + a.n
of_lt {x} {y} a b h = omega (arith, a.is, b.is, lt_parts x y h)

-- ---- the order

pub ≤ℤ-trans : {x y z : ℤ} → x ≤ℤ y → y ≤ℤ z → x ≤ℤ z
≤ℤ-trans {x} {y} {z} h k = omega ints

pub ≤ℤ-antisym : {x y : ℤ} → x ≤ℤ y → y ≤ℤ x → x ≡ y
≤ℤ-antisym {x} {y} h k = omega ints

pub ≤ℤ-of-< : {x y : ℤ} → x <ℤ y → x ≤ℤ y
≤ℤ-of-< {x} {y} h = omega ints
