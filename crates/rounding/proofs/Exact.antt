-- The exact coordinates are what they should be: a fraction each, and the mean of the exact ones before it.
use mathlib.Core.Path.{◌≡◌, refl, sym, ◌∙◌, ap}
use mathlib.Core.List.{List, [], ◌∷◌}
use Prim.Native.Nat.{ℕ, zero, suc, ◌*◌, ◌/◌, ◌<◌}
use native.Mathlib.Omega.{arith}
use native.Mathlib.Nat.{mul-pos, mul-div_cancel_left, le_of_suc-le-suc, not-suc-le-zero}
use lib.ListN.{length}
use lib.IntN.{ℤ, pos, ◌*ℤ◌}
use Rattle.rules.specs.Lists.{Each}
use Rattle.rules.specs.Means.{Round, no_mean, mean_of, coordinate, total}
use Rattle.rules.specs.Accuracy.{common, exact_divisor, unrounded, exact}
use Rattle.lists.proofs.Membership.{get_or_map}
use Rattle.lists.proofs.Each.{each_at}
use Rattle.integers.proofs.Linear.{var, ◌⊗◌, by_eq}
use Rattle.rounding.specs.Good.{GoodMean, count, GoodRounds}

-- ---- the divisors are above 0

common_pos : (n : ℕ) (r : Round) → Each (GoodMean n) r → 0 < common r
unfolding common
common_pos n [] g = omega arith
common_pos n (m ∷ r) g = mul-pos g.0.some (common_pos n r g.1)

pub exact_divisor_pos : (n : ℕ) (rs : List Round) → GoodRounds n rs → 0 < exact_divisor rs
unfolding exact_divisor
exact_divisor_pos n [] g = omega arith
exact_divisor_pos n (r ∷ past) g = mul-pos (common_pos (count n past) r g.0) (exact_divisor_pos n past g.1)

-- ---- a mean's divisor divides the common multiple of its round

-- the product of the other divisors
others : Round → ℕ → ℕ
others [] v = 1
others (m ∷ r) zero = common r
others (m ∷ r) (suc v) = m.divisor * others r v

others_is : (r : Round) (v : ℕ) → v < length r → (mean_of r v).divisor * others r v ≡ common r
unfolding others common
others_is [] v h = absurd (not-suc-le-zero h)
others_is (m ∷ r) zero h = refl
others_is (m ∷ r) (suc v) h = omega (arith, ap (λ (x : ℕ). m.divisor * x) (others_is r v (le_of_suc-le-suc h)))

-- the factor by which a mean's numerators grow in a round
abbrev pub factor : Round → ℕ → ℕ
factor r v = common r / (mean_of r v).divisor

right_pos : (d k : ℕ) → 0 < d * k → 0 < k
right_pos d zero h = omega arith
right_pos d (suc k) h = omega arith

module _ (n : ℕ) (r : Round) (v : ℕ) (g : Each (GoodMean n) r) (h : v < length r) where
  pub factor_is : (mean_of r v).divisor * factor r v ≡ common r
  factor_is =
      let d = (mean_of r v).divisor in
      let k : factor r v ≡ others r v =
      ap (λ (x : ℕ). x / d) (sym (others_is r v h)) ∙ mul-div_cancel_left (others r v) (each_at (GoodMean n) r no_mean v g h).some in
      ap (λ (x : ℕ). d * x) k ∙ others_is r v h

  pub factor_pos : 0 < factor r v
  factor_pos = right_pos (mean_of r v).divisor (factor r v) (omega (arith, factor_is, common_pos n r g))

-- ---- The exact coordinate, times the mean's divisor d, is the weighted sum of the exact ones before it: with n / q the coordinate after
-- the round and n' / q' those before it, d (n / q) = (sum of w n') / q' is d q' n = q (sum of w n').

pub exact_mean :
    (n : ℕ) (r : Round) (past : List Round) (xs : List ℤ) (v : ℕ) → GoodRounds n (r ∷ past) → v < length r →
    pos ((mean_of r v).divisor * exact_divisor past) *ℤ coordinate (exact (r ∷ past) xs) v ≡ pos (exact_divisor (r ∷ past)) *ℤ total (mean_of r v).draws (coordinate (exact past xs))
unfolding exact exact_divisor
exact_mean n r past xs v g h =
    let d = (mean_of r v).divisor in
    let k = factor r v in
    let q = exact_divisor past in
    let T = total (mean_of r v).draws (coordinate (exact past xs)) in
    ap (λ (z : ℤ). pos (d * q) *ℤ z) (get_or_map (unrounded (common r) (exact past xs)) r v no_mean (pos 0) h)
    ∙ by_eq ((d * q) ⊗ (k ⊗ var T)) ((d * k * q) ⊗ var T) (omega arith)
    ∙ ap (λ (c : ℕ). pos (c * q) *ℤ T) (factor_is (count n past) r v g.0 h)
