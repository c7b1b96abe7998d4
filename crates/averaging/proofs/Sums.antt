-- Laws of sums of numbers 0 .. n - 1. Assumes nothing.
use mathlib.Core.Path.{◌≡◌, refl, sym, ap, ap₂, ◌∙◌}
use mathlib.Core.List.{List, [], ◌∷◌}
use mathlib.Core.Bool.{Bool, true, false}
use Prim.Native.Nat.{ℕ, zero, suc, ◌+◌, ◌*◌, ◌≤◌, ◌<◌, min}
use native.Mathlib.Omega.{arith}
use borrow.Author.Tests.{eqb-true, eqb-false}
use lib.Dec.{eqb}
use lib.ListN.{length, get_or}
use Rattle.std.specs.List.{sum_by, zip}
use Rattle.std.proofs.lemmas.List.Sums.{sum_by-cons}
use Rattle.averaging.specs.Sums.{sum_to}

pub sum_to_same : (n : ℕ) (f g : ℕ → ℕ) → ((u : ℕ) → u < n → f u ≡ g u) → sum_to n f ≡ sum_to n g
unfolding sum_to
sum_to_same zero f g h = refl
sum_to_same (suc n) f g h = ap₂ ◌+◌ (sum_to_same n f g (λ u l. h u (omega arith))) (h n (omega arith))

pub sum_to_none : (n : ℕ) (f : ℕ → ℕ) → ((u : ℕ) → u < n → f u ≡ 0) → sum_to n f ≡ 0
unfolding sum_to
sum_to_none zero f h = refl
sum_to_none (suc n) f h = omega (arith, sum_to_none n f (λ u l. h u (omega arith)), h n (omega arith))

pub sum_to_plus : (n : ℕ) (f g : ℕ → ℕ) → sum_to n (λ (u : ℕ). f u + g u) ≡ sum_to n f + sum_to n g
unfolding sum_to
sum_to_plus zero f g = refl
sum_to_plus (suc n) f g = omega (arith, sum_to_plus n f g)

-- all terms but one are 0
pub sum_to_single : (n j : ℕ) (f : ℕ → ℕ) → j < n → ((u : ℕ) → u < n → (u ≡ j → ⊥) → f u ≡ 0) → sum_to n f ≡ f j
unfolding sum_to
sum_to_single zero j f h z = absurd (omega arith)
sum_to_single (suc n) j f h z = go (eqb j n) refl (λ l. sum_to_single n j f l (λ u k d. z u (omega arith) d))
  where
    less : (j n : ℕ) → j < suc n → (j ≡ n → ⊥) → j < n
    less j n h d = omega arith

    apart : (u j n : ℕ) → j ≡ n → u < n → u ≡ j → ⊥
    apart u j n p k d = omega arith

    go : (b : Bool) → eqb j n ≡ b → (j < n → sum_to n f ≡ f j) → sum_to n f + f n ≡ f j
    go true e r =
        let p : j ≡ n = eqb-true j n e in
        let q : sum_to n f ≡ 0 = sum_to_none n f (λ u k. z u (omega arith) (λ d. apart u j n p k d)) in
        rw p (omega arith)
    go false e r =
        let l = less j n h (eqb-false j n e) in
        omega (arith, r l, z n (omega arith) (λ d. eqb-false j n e (sym d)))

sum_to_first : (n : ℕ) (f : ℕ → ℕ) → sum_to (suc n) f ≡ f 0 + sum_to n (λ (u : ℕ). f (suc u))
unfolding sum_to
sum_to_first zero f = omega arith
sum_to_first (suc n) f = omega (arith, sum_to_first n f)

-- the library's sum over two lists side by side
module _ {A : Type 0} (e : A → ℕ) where
  pub pairs_total : (ws : List ℕ) (xs : List A) (d : A) → length ws ≡ length xs
      → sum_by {X = ℕ × A} (λ p. p.0 * e p.1) (zip ws xs) ≡ sum_to (length ws) (λ (u : ℕ). get_or ws u 0 * e (get_or xs u d))
  unfolding sum_to
  pairs_total [] [] d h = refl
  pairs_total [] (x ∷ xs) d h = absurd (omega (arith, h))
  pairs_total (w ∷ ws) [] d h = absurd (omega (arith, h))
  pairs_total (w ∷ ws) (x ∷ xs) d h =
      sum_by-cons {X = ℕ × A} (λ p. p.0 * e p.1) (w, x) (zip ws xs)
      ∙ ap (λ (n : ℕ). w * e x + n) (pairs_total ws xs d (omega (arith, h)))
      ∙ sym (sum_to_first (length ws) (λ (u : ℕ). get_or (w ∷ ws) u 0 * e (get_or (x ∷ xs) u d)))

  -- each cut to a bound
  pub pairs_few : (m : ℕ) (ws : List ℕ) (xs : List A) → sum_by {X = ℕ × A} (λ p. min (p.0 * e p.1) m) (zip ws xs) ≤ length ws * m
  pairs_few m [] xs = omega arith
  pairs_few m (w ∷ ws) [] = omega arith
  pairs_few m (w ∷ ws) (x ∷ xs) = omega (arith, sum_by-cons {X = ℕ × A} (λ p. min (p.0 * e p.1) m) (w, x) (zip ws xs), pairs_few m ws xs)
