-- How far the written coordinate is behind the exact one, as a numerator over the same divisor.
use mathlib.Core.Path.{◌≡◌, sym, ◌∙◌, ap, subst}
use mathlib.Core.List.{List, [], ◌∷◌}
use Prim.Native.Nat.{ℕ, suc, ◌+◌, ◌*◌, ◌-◌, ◌≤◌, ◌<◌}
use native.Mathlib.Omega.{arith}
use native.Mathlib.Nat.{mul-pos, mul-le-mul_left}
use lib.ListN.{length}
use lib.IntN.{ℤ, pos, ◌+ℤ◌, ◌*ℤ◌}
use Rattle.rules.specs.Means.{Round, no_mean, mean_of, floor_div, floor_mod, coordinate, total, rounded, remainder}
use Rattle.rules.specs.Accuracy.{common, exact_divisor, unrounded, exact}
use Rattle.lists.proofs.Membership.{get_or_map}
use Rattle.lists.proofs.Each.{each_at}
use Rattle.integers.proofs.Linear.{var, nat, ◌⊕◌, ◌⊗◌, by_eq, of_eq}
use Rattle.integers.proofs.Floor.{floor_mod_lt, floor_split}
use Rattle.rounding.specs.Good.{GoodMean, count, GoodRounds}
use Rattle.rounding.specs.Written.{written}
use Rattle.rounding.proofs.Draws.{nat_total, nat_total_le, total_line}
use Rattle.rounding.proofs.Exact.{factor, factor_is, factor_pos, exact_divisor_pos}

-- the remainder of the vertex's own division, and the lags of the vertices that it draws on
unfoldable pub lag : List Round → List ℤ → ℕ → ℕ
lag [] xs v = 0
lag (r ∷ past) xs v =
    factor r v * (exact_divisor past * remainder (written past xs) (mean_of r v) + nat_total (mean_of r v).draws (lag past xs))

-- one mean: N is q times W, and s more
mean_lag :
    (q k d s : ℕ) (N W : ℤ) → 0 < d → N ≡ pos q *ℤ W +ℤ pos s →
    pos k *ℤ N ≡ pos (d * k * q) *ℤ floor_div W d +ℤ pos (k * (q * floor_mod W d + s))
mean_lag q k d s N W h e =
    let f = floor_div W d in
    let r = floor_mod W d in
    by_eq (k ⊗ var N) ((d * k * q) ⊗ var f ⊕ nat (k * (q * r + s)))
    (omega (arith, ap (λ (x : ℕ). k * x) (of_eq (var N) (q ⊗ var W ⊕ nat s) e), ap (λ (x : ℕ). k * q * x) (of_eq (var W) (d ⊗ var f ⊕ nat r) (floor_split W d h))))

-- one round adds less than one unit: the remainder is below the divisor
bound : (q k d r s j : ℕ) → 0 < q → 0 < k → r < d → s ≤ d * (j * q - 1) → k * (q * r + s) ≤ suc j * (d * k * q) - 1
bound q k d r s j hq hk hr hs =
    let a : q * r + q ≤ q * d = omega (arith, mul-le-mul_left q hr) in
    let b : s ≤ d * (j * q) = omega (arith, mul-le-mul_left d (less (j * q))) in
    let c : k * (q * r + q + s) ≤ k * (q * d + d * (j * q)) = mul-le-mul_left k (omega arith) in
    let one : 0 < k * q = mul-pos hk hq in
    omega arith
  where
    less : (x : ℕ) → x - 1 ≤ x
    less x = omega arith

module _ (n : ℕ) (xs : List ℤ) where
  -- the exact numerator is the divisor times the written coordinate, and the lag
  pub exact_is :
      (rs : List Round) → GoodRounds n rs → (v : ℕ) → v < count n rs →
      coordinate (exact rs xs) v ≡ pos (exact_divisor rs) *ℤ coordinate (written rs xs) v +ℤ pos (lag rs xs v)
  unfolding exact written exact_divisor lag
  exact_is [] g v h = let x = coordinate xs v in by_eq (var x) (1 ⊗ var x ⊕ nat 0) (omega arith)
  exact_is (r ∷ past) g v h =
      let m = mean_of r v in
      let good = each_at (GoodMean (count n past)) r no_mean v g.0 h in
      let N = coordinate (exact past xs) in
      let W = coordinate (written past xs) in
      let q = exact_divisor past in
      let l = lag (r ∷ past) xs v in
      let f = floor_div (total m.draws W) m.divisor in
      let e = total_line (count n past) q N W (lag past xs) m.draws good.each (exact_is past g.1) in
      get_or_map (unrounded (common r) (exact past xs)) r v no_mean (pos 0) h
      ∙ mean_lag q (factor r v) m.divisor (nat_total m.draws (lag past xs)) (total m.draws N) (total m.draws W) good.some e
      ∙ ap (λ (c : ℕ). pos (c * q) *ℤ f +ℤ pos l) (factor_is (count n past) r v g.0 h)
      ∙ ap (λ (z : ℤ). pos (common r * q) *ℤ z +ℤ pos l) (sym (get_or_map (rounded (written past xs)) r v no_mean (pos 0) h))

  -- the lag is below as many units as there were rounds
  pub lag_below : (rs : List Round) → GoodRounds n rs → (v : ℕ) → v < count n rs → lag rs xs v ≤ length rs * exact_divisor rs - 1
  unfolding lag exact_divisor
  lag_below [] g v h = omega arith
  lag_below (r ∷ past) g v h =
      let m = mean_of r v in
      let good = each_at (GoodMean (count n past)) r no_mean v g.0 h in
      let j = length past in
      let q = exact_divisor past in
      let k = factor r v in
      let s = nat_total m.draws (lag past xs) in
      let rest = remainder (written past xs) m in
      let low : s ≤ m.divisor * (j * q - 1) =
      subst (λ (d : ℕ). s ≤ d * (j * q - 1)) good.whole (nat_total_le (count n past) (j * q - 1) (lag past xs) m.draws good.each (lag_below past g.1)) in
      subst (λ (c : ℕ). k * (q * rest + s) ≤ suc j * (c * q) - 1) (factor_is (count n past) r v g.0 h)
      (bound q k m.divisor rest s j (exact_divisor_pos n past g.1) (factor_pos (count n past) r v g.0 h) (floor_mod_lt _ _ good.some) low)
