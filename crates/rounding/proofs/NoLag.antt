-- The written coordinate is not behind the exact one exactly when no division that feeds it left a remainder.
use mathlib.Core.Path.{◌≡◌, refl, ap}
use mathlib.Core.Logic.{◌↔◌}
use mathlib.Core.List.{List, [], ◌∷◌}
use Prim.Native.Nat.{ℕ, ◌+◌, ◌*◌, ◌<◌}
use native.Mathlib.Omega.{arith}
use native.Mathlib.Nat.{mul-le-mul_right}
use lib.IntN.{ℤ}
use Rattle.rules.specs.Lists.{Each}
use Rattle.rules.specs.Means.{Draw, Round, no_mean, mean_of, remainder}
use Rattle.rules.specs.Accuracy.{exact_divisor}
use Rattle.lists.proofs.Each.{each_at}
use Rattle.rounding.specs.Good.{GoodDraw, GoodMean, count, GoodRounds}
use Rattle.rounding.specs.Written.{written, NoRemainder}
use Rattle.rounding.proofs.Draws.{nat_total}
use Rattle.rounding.proofs.Exact.{factor, factor_pos, exact_divisor_pos}
use Rattle.rounding.proofs.Lag.{lag}

-- a product with a factor above 0 is 0 only where the other factor is
right_zero : (k x : ℕ) → 0 < k → k * x ≡ 0 → x ≡ 0
right_zero k x h e = omega (arith, mul-le-mul_right x h)

-- a sum with weights above 0 is 0 exactly when each number is, or whatever says the same of a number
nat_total_zero :
    (n : ℕ) (P : ℕ → Type 0) (e : ℕ → ℕ) (ts : List Draw) → Each (GoodDraw n) ts → ((u : ℕ) → u < n → (e u ≡ 0) ↔ P u) →
    (nat_total ts e ≡ 0) ↔ Each (λ (t : Draw). P t.vertex) ts
nat_total_zero n P e [] g h = (λ z. tt, λ z. refl)
nat_total_zero n P e (t ∷ ts) g h =
    let w = t.weight in
    let u = t.vertex in
    let one = h u g.0.known in
    let more = nat_total_zero n P e ts g.1 h in (
      λ z. (one.0 (right_zero w (e u) g.0.counted (omega arith)), more.0 (omega arith)),
      λ p. omega (arith, ap (λ (x : ℕ). w * x) (one.1 p.0), more.1 p.1),
    )

pub no_lag : (n : ℕ) (xs : List ℤ) (rs : List Round) → GoodRounds n rs → (v : ℕ) → v < count n rs → (lag rs xs v ≡ 0) ↔ NoRemainder rs xs v
unfolding lag NoRemainder
no_lag n xs [] g v h = (λ z. tt, λ z. refl)
no_lag n xs (r ∷ past) g v h =
    let m = mean_of r v in
    let good = each_at (GoodMean (count n past)) r no_mean v g.0 h in
    let k = factor r v in
    let q = exact_divisor past in
    let rest = remainder (written past xs) m in
    let s = nat_total m.draws (lag past xs) in
    let kp : 0 < k = factor_pos (count n past) r v g.0 h in
    let qp : 0 < q = exact_divisor_pos n past g.1 in
    let drawn = nat_total_zero (count n past) (NoRemainder past xs) (lag past xs) m.draws good.each (no_lag n xs past g.1) in (
      λ z. let sum : q * rest + s ≡ 0 = right_zero k (q * rest + s) kp z in
          (right_zero q rest qp (omega arith), drawn.0 (omega arith)),
      λ c. none k q rest s c.0 (drawn.1 c.1),
    )
  where
    none : (k q rest s : ℕ) → rest ≡ 0 → s ≡ 0 → k * (q * rest + s) ≡ 0
    none k q rest s a b = rw (a, b) (omega arith)
