-- How many elements pass a test: of lists joined, of a list of pairs, of the numbers below n. Assumes nothing.
use mathlib.Core.Path.{◌≡◌, refl, ap, ◌∙◌}
use mathlib.Core.Bool.{Bool, true, false, cond}
use mathlib.Core.Logic.{inl, inr}
use mathlib.Core.List.{List, [], ◌∷◌, ◌++◌}
use Prim.Native.Nat.{ℕ, suc, ◌+◌, ◌-◌, ◌<◌, ◌≤◌}
use native.Mathlib.Nat.{zero-add, add-zero}
use native.Mathlib.Omega.{arith}
use lib.ListN.{length, get_or, length-append}
use Rattle.std.specs.List.{zip, count_by}
use Rattle.std.proofs.lemmas.List.Sums.{sum_by-cons}
use Rattle.rules.specs.Lists.{keep, up_from}
use Rattle.lists.specs.Membership.{In}
use Rattle.lists.proofs.Membership.{length_keep, length_up_from, up_from_append}

module _ {A : Type 0} where
  pub keep_append : (p : A → Bool) (xs ys : List A) → keep p (xs ++ ys) ≡ keep p xs ++ keep p ys
  unfolding keep
  keep_append p [] ys = refl
  keep_append p (x ∷ xs) ys = go (p x) (keep_append p xs ys)
    where
      go : (b : Bool) → keep p (xs ++ ys) ≡ keep p xs ++ keep p ys
          → cond b (x ∷ keep p (xs ++ ys)) (keep p (xs ++ ys)) ≡ cond b (x ∷ keep p xs) (keep p xs) ++ keep p ys
      go true ih = ap (λ (l : List A). x ∷ l) ih
      go false ih = ih

  -- tests that agree keep the same
  pub keep_same : (p q : A → Bool) (xs : List A) → ((x : A) → In x xs → p x ≡ q x) → keep p xs ≡ keep q xs
  unfolding keep
  keep_same p q [] e = refl
  keep_same p q (x ∷ xs) e = rw (e x (inl refl), keep_same p q xs (λ y i. e y (inr i)))

-- ---- the numbers of a window, and a pair for each of them

pub pair_count : (u : ℕ × ℕ → Bool) (q : ℕ → Bool) (first : ℕ) (xs ys : List ℕ) → length ys ≡ length xs
    → ((v : ℕ) → v < length xs → u (get_or xs v 0, get_or ys v 0) ≡ q (first + v))
    → count_by u (zip xs ys) ≡ length (keep q (up_from first (length xs)))
unfolding keep up_from
pair_count u q first [] [] e same = refl
pair_count u q first [] (y ∷ ys) e same = absurd (omega arith)
pair_count u q first (x ∷ xs) [] e same = absurd (omega arith)
pair_count u q first (x ∷ xs) (y ∷ ys) e same =
    sum_by-cons (λ (p : ℕ × ℕ). cond (u p) 1 0) (x, y) (zip xs ys)
    ∙ go (u (x, y)) (q first) (same 0 (omega arith) ∙ ap q (add-zero first)) _
    (pair_count u q (suc first) xs ys (omega arith) (λ v h. same (suc v) (omega arith) ∙ ap q (omega arith)))
  where
    go : (a b : Bool) → a ≡ b → {n : ℕ} (l : List ℕ) → n ≡ length l → cond a 1 0 + n ≡ length (cond b (first ∷ l) l)
    go true true e l ih = omega arith
    go false false e l ih = omega arith
    go true false e l ih = absurd (cc)
    go false true e l ih = absurd (cc)

-- ---- the numbers below n, some at a time

-- so many of the numbers below `first` pass
pub record Windowing (p : ℕ → Bool) (n first count : ℕ) : Type 0 where
  pub below : first ≤ n
  pub all : count ≡ length (keep p (up_from 0 first))

pub window_start : (p : ℕ → Bool) (n : ℕ) → Windowing p n 0 0
unfolding keep up_from
window_start p n = record { below = omega arith; all = refl }

module _ (p : ℕ → Bool) (n : ℕ) {first count : ℕ} (at : Windowing p n first count) where
  pub window_few : count ≤ first
  window_few = omega (arith, at.all, length_keep p (up_from 0 first), length_up_from 0 first)

  pub window_turn : (size k more : ℕ) → size ≤ n - first → k ≡ size → more ≡ length (keep p (up_from first k)) → Windowing p n (first + size) (count + more)
  window_turn size k more h same e = record {
    below = omega (arith, at.below);
    all = rw (up_from_append 0 first size, zero-add first, keep_append p (up_from 0 first) (up_from first size))
        (omega (arith, at.all, rw same at e, length-append (keep p (up_from 0 first)) (keep p (up_from first size))));
  }

  pub window_end : n ≤ first → count ≡ length (keep p (up_from 0 n))
  window_end h =
      let e : first ≡ n = omega (arith, at.below) in
      at.all ∙ ap (λ (k : ℕ). length (keep p (up_from 0 k))) e
