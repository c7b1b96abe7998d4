-- A mean stays between bounds; so do the written coordinates, after any rounds, and the bounding box gives such bounds.
use mathlib.Core.Path.{◌≡◌, sym, ◌∙◌, ap, subst}
use mathlib.Core.List.{List, [], ◌∷◌}
use Prim.Native.Nat.{ℕ, zero, suc, ◌<◌}
use native.Mathlib.Nat.{le_of_suc-le-suc, not-suc-le-zero}
use lib.ListN.{length}
use lib.IntN.{ℤ, pos, ◌*ℤ◌}
use lib.Signed.{lt_z, ◌≤ℤ◌, ≤ℤ_refl, lt_z_yes, lt_z_no}
use Rattle.rules.specs.Means.{Mean, Round, no_mean, mean_of, coordinate, total, rounded}
use Rattle.rules.specs.Accuracy.{lesser, greater, least_of, greatest_of, least, greatest}
use Rattle.lists.proofs.Membership.{get_or_map}
use Rattle.lists.proofs.Each.{each_at}
use Rattle.integers.proofs.Linear.{≤ℤ-trans, ≤ℤ-of-<, cond_ind}
use Rattle.integers.proofs.Floor.{floor_lower, floor_upper}
use Rattle.rounding.specs.Good.{GoodMean, count, GoodRounds}
use Rattle.rounding.specs.Written.{written}
use Rattle.rounding.proofs.Draws.{total_le, total_const}

abbrev pub Between : ℤ → ℤ → ℤ → Type 0
Between lo hi z = (lo ≤ℤ z) × (z ≤ℤ hi)

-- ---- means

pub rounded_between :
    (n : ℕ) (lo hi : ℤ) (xs : List ℤ) (m : Mean) → GoodMean n m → ((u : ℕ) → u < n → Between lo hi (coordinate xs u)) →
    Between lo hi (rounded xs m)
rounded_between n lo hi xs m g b =
    let d = m.divisor in
    let s = total m.draws (coordinate xs) in
    let low : (pos d *ℤ lo) ≤ℤ s =
    subst (λ (z : ℤ). z ≤ℤ s) (constant lo) (total_le n (λ (u : ℕ). lo) (coordinate xs) m.draws g.each (λ u h. (b u h).0)) in
    let high : s ≤ℤ (pos d *ℤ hi) =
    subst (λ (z : ℤ). s ≤ℤ z) (constant hi) (total_le n (coordinate xs) (λ (u : ℕ). hi) m.draws g.each (λ u h. (b u h).1)) in
    (floor_lower s lo d g.some low, floor_upper s hi d g.some high)
  where
    constant : (c : ℤ) → total m.draws (λ (u : ℕ). c) ≡ pos m.divisor *ℤ c
    constant c = total_const c m.draws ∙ ap (λ (d : ℕ). pos d *ℤ c) g.whole

pub written_between :
    (n : ℕ) (lo hi : ℤ) (rs : List Round) (xs : List ℤ) → GoodRounds n rs → ((u : ℕ) → u < n → Between lo hi (coordinate xs u)) → (v : ℕ) →
    v < count n rs → Between lo hi (coordinate (written rs xs) v)
unfolding written
written_between n lo hi [] xs g b v h = b v h
written_between n lo hi (r ∷ past) xs g b v h =
    let before = written past xs in
    subst (λ (z : ℤ). Between lo hi z) (sym (get_or_map (rounded before) r v no_mean (pos 0) h))
    (rounded_between (count n past) lo hi before (mean_of r v) (each_at (GoodMean (count n past)) r no_mean v g.0 h) (written_between n lo hi past xs g.1 b))

-- ---- each coordinate is between the least and the greatest

lesser_both : (a b : ℤ) → (lesser a b ≤ℤ a) × (lesser a b ≤ℤ b)
lesser_both a b = cond_ind (lt_z a b) a b (λ z. (z ≤ℤ a) × (z ≤ℤ b)) (λ t. (≤ℤ_refl a, ≤ℤ-of-< (lt_z_yes t))) (λ t. (lt_z_no t, ≤ℤ_refl b))

greater_both : (a b : ℤ) → (a ≤ℤ greater a b) × (b ≤ℤ greater a b)
greater_both a b = cond_ind (lt_z a b) b a (λ z. (a ≤ℤ z) × (b ≤ℤ z)) (λ t. (≤ℤ-of-< (lt_z_yes t), ≤ℤ_refl b)) (λ t. (≤ℤ_refl a, lt_z_no t))

between_of : (x : ℤ) (xs : List ℤ) (v : ℕ) → v < length (x ∷ xs) → Between (least_of x xs) (greatest_of x xs) (coordinate (x ∷ xs) v)
unfolding least_of greatest_of
between_of x [] zero h = (≤ℤ_refl x, ≤ℤ_refl x)
between_of x [] (suc v) h = absurd (not-suc-le-zero (le_of_suc-le-suc h))
between_of x (y ∷ ys) zero h = ((lesser_both x (least_of y ys)).0, (greater_both x (greatest_of y ys)).0)
between_of x (y ∷ ys) (suc v) h =
    let r = between_of y ys v (le_of_suc-le-suc h) in
    (≤ℤ-trans (lesser_both x (least_of y ys)).1 r.0, ≤ℤ-trans r.1 (greater_both x (greatest_of y ys)).1)

pub box : (xs : List ℤ) (v : ℕ) → v < length xs → Between (least xs) (greatest xs) (coordinate xs v)
unfolding least greatest
box [] v h = absurd (not-suc-le-zero h)
box (x ∷ xs) v h = between_of x xs v h
