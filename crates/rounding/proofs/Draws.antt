-- Laws of weighted sums: of joined lists, of bounded numbers, and of biased ones. They join code that sums to the means of `rules`.
use mathlib.Core.Path.{◌≡◌, refl, ap, subst}
use mathlib.Core.List.{List, [], ◌∷◌, ◌++◌}
use Prim.Native.Nat.{ℕ, ◌+◌, ◌*◌, ◌/◌, ◌≤◌, ◌<◌}
use native.Mathlib.Omega.{arith}
use native.Mathlib.Nat.{mul-le-mul_left}
use lib.ListN.{length}
use lib.IntN.{ℤ, pos, ◌+ℤ◌, ◌*ℤ◌}
use lib.Signed.{◌≤ℤ◌}
use Rattle.rules.specs.Lists.{Each, concat_map}
use Rattle.rules.specs.Means.{Draw, Mean, coordinate, total, rounded}
use Rattle.integers.proofs.Linear.{var, nat, ◌⊕◌, ◌⊗◌, by_eq, by_le, of_eq, of_le}
use Rattle.integers.proofs.Floor.{floor_biased}
use Rattle.rounding.specs.Good.{weights, GoodDraw, GoodMean}

-- a weighted sum of naturals
abbrev pub nat_total : List Draw → (ℕ → ℕ) → ℕ
nat_total [] f = 0
nat_total (t ∷ ts) f = t.weight * f t.vertex + nat_total ts f

-- ---- joined lists

pub weights_append : (ts us : List Draw) → weights (ts ++ us) ≡ weights ts + weights us
weights_append [] us = omega arith
weights_append (t ∷ ts) us = omega (arith, weights_append ts us)

pub nat_total_append : (f : ℕ → ℕ) (ts us : List Draw) → nat_total (ts ++ us) f ≡ nat_total ts f + nat_total us f
nat_total_append f [] us = omega arith
nat_total_append f (t ∷ ts) us = omega (arith, nat_total_append f ts us)

-- lists of one weight w each
pub weights_concat_map :
    {A : Type 0} (w : ℕ) (f : A → List Draw) (xs : List A) → Each (λ (x : A). weights (f x) ≡ w) xs →
    weights (concat_map f xs) ≡ w * length xs
unfolding concat_map
weights_concat_map w f [] e = omega arith
weights_concat_map w f (x ∷ xs) e = omega (arith, weights_append (f x) (concat_map f xs), e.0, weights_concat_map w f xs e.1)

-- what a pass over the elements accumulates
abbrev pub sum_over : {A : Type 0} → (A → ℕ) → List A → ℕ
sum_over f [] = 0
sum_over f (x ∷ xs) = f x + sum_over f xs

pub nat_total_concat_map :
    {A : Type 0} (e : ℕ → ℕ) (f : A → List Draw) (xs : List A) →
    nat_total (concat_map f xs) e ≡ sum_over (λ (x : A). nat_total (f x) e) xs
unfolding concat_map
nat_total_concat_map e f [] = refl
nat_total_concat_map e f (x ∷ xs) = omega (arith, nat_total_append e (f x) (concat_map f xs), nat_total_concat_map e f xs)

-- ---- sums of numbers below n: pointwise order, constants, bounds

module _ (n : ℕ) where
  pub total_le : (f g : ℕ → ℤ) (ts : List Draw) → Each (GoodDraw n) ts → ((u : ℕ) → u < n → f u ≤ℤ g u) → total ts f ≤ℤ total ts g
  total_le f g [] d h = by_le (nat 0) (nat 0) (omega arith)
  total_le f g (t ∷ ts) d h =
      let w = t.weight in
      let u = t.vertex in
      by_le (w ⊗ var (f u) ⊕ var (total ts f)) (w ⊗ var (g u) ⊕ var (total ts g))
      (omega (arith, mul-le-mul_left w (of_le (var (f u)) (var (g u)) (h u d.0.known)), of_le (var (total ts f)) (var (total ts g)) (total_le f g ts d.1 h)))

  pub nat_total_le : (b : ℕ) (e : ℕ → ℕ) (ts : List Draw) → Each (GoodDraw n) ts → ((u : ℕ) → u < n → e u ≤ b) → nat_total ts e ≤ weights ts * b
  nat_total_le b e [] d h = omega arith
  nat_total_le b e (t ∷ ts) d h =
      omega (arith, mul-le-mul_left t.weight (h t.vertex d.0.known), nat_total_le b e ts d.1 h)

  -- ---- numbers in a line: N u is q times W u, and e u more. A weighted sum keeps this.

  pub total_line :
      (q : ℕ) (N W : ℕ → ℤ) (e : ℕ → ℕ) (ts : List Draw) → Each (GoodDraw n) ts → ((u : ℕ) → u < n → N u ≡ pos q *ℤ W u +ℤ pos (e u)) →
      total ts N ≡ pos q *ℤ total ts W +ℤ pos (nat_total ts e)
  total_line q N W e [] d h = by_eq (nat 0) (q ⊗ nat 0 ⊕ nat 0) (omega arith)
  total_line q N W e (t ∷ ts) d h =
      let w = t.weight in
      let u = t.vertex in
      let one = of_eq (var (N u)) (q ⊗ var (W u) ⊕ nat (e u)) (h u d.0.known) in
      let more = of_eq (var (total ts N)) (q ⊗ var (total ts W) ⊕ nat (nat_total ts e)) (total_line q N W e ts d.1 h) in
      by_eq (w ⊗ var (N u) ⊕ var (total ts N)) (q ⊗ (w ⊗ var (W u) ⊕ var (total ts W)) ⊕ nat (w * e u + nat_total ts e))
      (omega (arith, more, ap (λ (x : ℕ). w * x) one))

pub total_const : (c : ℤ) (ts : List Draw) → total ts (λ (u : ℕ). c) ≡ pos (weights ts) *ℤ c
total_const c [] = by_eq (nat 0) (0 ⊗ var c) (omega arith)
total_const c (t ∷ ts) =
    let w = t.weight in
    let s = total ts (λ (u : ℕ). c) in
    by_eq (w ⊗ var c ⊕ var s) ((w + weights ts) ⊗ var c)
    (omega (arith, of_eq (var s) (weights ts ⊗ var c) (total_const c ts)))

-- ---- biased numbers: e u is f u with b added

pub total_biased :
    (n b : ℕ) (f : ℕ → ℤ) (e : ℕ → ℕ) (ts : List Draw) → Each (GoodDraw n) ts → ((u : ℕ) → u < n → pos (e u) ≡ f u +ℤ pos b) →
    pos (nat_total ts e) ≡ total ts f +ℤ pos (weights ts) *ℤ pos b
total_biased n b f e [] g h = by_eq (nat 0) (nat 0 ⊕ 0 ⊗ nat b) (omega arith)
total_biased n b f e (t ∷ ts) g h =
    let w = t.weight in
    let u = t.vertex in
    let one = of_eq (nat (e u)) (var (f u) ⊕ nat b) (h u g.0.known) in
    let more = of_eq (nat (nat_total ts e)) (var (total ts f) ⊕ weights ts ⊗ nat b) (total_biased n b f e ts g.1 h) in
    by_eq (nat (w * e u + nat_total ts e)) (w ⊗ var (f u) ⊕ var (total ts f) ⊕ (w + weights ts) ⊗ nat b)
    (omega (arith, more, ap (λ (x : ℕ). w * x) one))

-- a mean by biased coordinates: summed, divided as naturals, and the bias taken off, they give the rounded mean
pub rounded_biased :
    (n b : ℕ) (xs : List ℤ) (e : ℕ → ℕ) (m : Mean) (r : ℤ) → GoodMean n m → ((u : ℕ) → u < n → pos (e u) ≡ coordinate xs u +ℤ pos b) →
    pos (nat_total m.draws e / m.divisor) ≡ r +ℤ pos b → r ≡ rounded xs m
rounded_biased n b xs e m r g h k =
    let s = total m.draws (coordinate xs) in
    let sum : pos (nat_total m.draws e) ≡ s +ℤ pos m.divisor *ℤ pos b =
    subst (λ (d : ℕ). pos (nat_total m.draws e) ≡ s +ℤ pos d *ℤ pos b) g.whole (total_biased n b (coordinate xs) e m.draws g.each h) in
    floor_biased s r (nat_total m.draws e) m.divisor b g.some sum k
