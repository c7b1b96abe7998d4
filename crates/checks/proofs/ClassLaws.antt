-- Edges, faces or cells in classes: what has one corner set is in one class, and the classes together are all. Assumes nothing.
use mathlib.Core.Path.{◌≡◌, refl, sym, ap, ◌∙◌}
use mathlib.Core.Bool.{Bool, true, false, cond}
use mathlib.Core.List.{List, [], ◌∷◌, map}
use Prim.Native.Nat.{ℕ, suc, ◌+◌, ◌*◌, ◌%◌, ◌^◌, ◌<◌, ◌≤◌}
use native.Mathlib.Nat.{add-zero, zero-add, add_assoc, mod-lt, div-lt_iff_lt-mul, mul_comm, mul-lt-mul_of_pos_right}
use native.Mathlib.Omega.{arith}
use lib.Dec.{leb, ltb, eqb, lit<}
use lib.ListN.{length}
use borrow.Author.Tests.{ltb-true, ltb-false, eqb-true, eqb-false, lt-ltb, le-ltb}
use Rattle.std.specs.List.{fold, sum_by}
use Rattle.rules.specs.Lists.{keep, Key, insert, key_of, distinct}
use Rattle.lists.proofs.Membership.{in_keep, keep_in}
use Rattle.lists.proofs.Once.{once_keep, length_same}
use Rattle.lists.proofs.Distinct.{in_distinct, distinct_in, once_distinct}
use Rattle.checks.specs.Classes.{squared, total, class_of, in_class}

-- ---- the class is that of the corner set

-- the library's sum
sum_from : (n : ℕ) (p : List ℕ) → fold (λ (a x : ℕ). a + squared x) n p ≡ n + total p
unfolding total
sum_from n [] = sym (add-zero n)
sum_from n (x ∷ p) = sum_from (n + squared x) p ∙ add_assoc n (squared x) (total p)

pub sum_total : (p : List ℕ) → sum_by squared p ≡ total p
sum_total p = sum_from 0 p ∙ zero-add (total p)

-- of few corners it is small
pub total_few : (p : List ℕ) → total p ≤ 2 ^ 32 * length p
unfolding total
total_few [] = omega arith
total_few (x ∷ p) = omega (arith, total_few p, mod-lt (x * x) {m = 2 ^ 32} (lit< tt))

total_insert : (x : ℕ) (ys : List ℕ) → total (insert x ys) ≡ squared x + total ys
unfolding total insert
total_insert x [] = refl
total_insert x (y ∷ ys) = go (leb x y) (total_insert x ys)
  where
    go : (b : Bool) → total (insert x ys) ≡ squared x + total ys → total (cond b (x ∷ y ∷ ys) (y ∷ insert x ys)) ≡ squared x + (squared y + total ys)
    go true e = refl
    go false e = omega arith

total_key : (p : List ℕ) → total (key_of p) ≡ total p
unfolding total key_of
total_key [] = refl
total_key (x ∷ xs) = total_insert x (key_of xs) ∙ ap (λ (n : ℕ). squared x + n) (total_key xs)

pub class_key : (m : ℕ) (p : List ℕ) → class_of m (key_of p) ≡ class_of m p
unfolding class_of
class_key m p = rw (total_key p)

pub class_below : (m : ℕ) → 0 < m → (p : List ℕ) → class_of m p < m
unfolding class_of
class_below m h p =
    let l : total p % 2 ^ 32 * 1640531527 % 2 ^ 32 < 2 ^ 32 = mod-lt (total p % 2 ^ 32 * 1640531527) (omega arith) in
    (div-lt_iff_lt-mul {k = 2 ^ 32} (omega arith)).1 (rw (mul_comm m (2 ^ 32)) (mul-lt-mul_of_pos_right l h))

-- ---- the corner sets of a class

module _ (p : Key → Bool) where
  -- to leave out what is not in a class, and then what was met before; or the other way round
  distinct_keep : (ks : List Key) → length (distinct (keep p ks)) ≡ length (keep p (distinct ks))
  distinct_keep ks =
      length_same (distinct (keep p ks)) (keep p (distinct ks)) (once_distinct (keep p ks)) (once_keep p (distinct ks) (once_distinct ks))
      (λ k i. let j = in_keep p ks k (in_distinct (keep p ks) k i) in keep_in p (distinct ks) k (distinct_in ks k j.0) j.1)
      (λ k i. let j = in_keep p (distinct ks) k i in distinct_in (keep p ks) k (keep_in p ks k (in_distinct ks k j.0) j.1))

module _ {A B : Type 0} (f : A → B) (p : B → Bool) (q : A → Bool) (same : (x : A) → p (f x) ≡ q x) where
  keep_map : (xs : List A) → keep p (map f xs) ≡ map f (keep q xs)
  unfolding keep
  keep_map [] = refl
  keep_map (x ∷ xs) = rw (same x) (go (q x) (keep_map xs))
    where
      go : (b : Bool) → keep p (map f xs) ≡ map f (keep q xs)
          → cond b (f x ∷ keep p (map f xs)) (keep p (map f xs)) ≡ map f (cond b (x ∷ keep q xs) (keep q xs))
      go true e = ap (λ (l : List B). f x ∷ l) e
      go false e = e

pub class_distinct : (m number : ℕ) (ps : List (List ℕ))
    → length (distinct (map key_of (keep (in_class m number) ps))) ≡ length (keep (in_class m number) (distinct (map key_of ps)))
class_distinct m number ps =
    ap (λ (ks : List Key). length (distinct ks))
    (sym (keep_map key_of (in_class m number) (in_class m number) (λ p. ap (λ (n : ℕ). eqb n number) (class_key m p)) ps))
    ∙ distinct_keep (in_class m number) (map key_of ps)

-- ---- the classes one after the other

module _ {A : Type 0} (g : A → ℕ) where
  -- the elements below i and those at i
  abbrev pub keep_below : ℕ → List A → List A
  keep_below i xs = keep (λ (x : A). ltb (g x) i) xs

  abbrev keep_at : ℕ → List A → List A
  keep_at i xs = keep (λ (x : A). eqb (g x) i) xs

  -- those below i and those at i are those below i + 1
  pub keep_next : (i : ℕ) (xs : List A) → length (keep_below i xs) + length (keep_at i xs) ≡ length (keep_below (i + 1) xs)
  unfolding keep
  keep_next i [] = refl
  keep_next i (x ∷ xs) = go (ltb (g x) i) refl (eqb (g x) i) refl (ltb (g x) (i + 1)) refl (keep_next i xs)
    where
      go : (a : Bool) → ltb (g x) i ≡ a → (b : Bool) → eqb (g x) i ≡ b → (c : Bool) → ltb (g x) (i + 1) ≡ c
          → length (keep_below i xs) + length (keep_at i xs) ≡ length (keep_below (i + 1) xs)
          → length (cond a (x ∷ keep_below i xs) (keep_below i xs)) + length (cond b (x ∷ keep_at i xs) (keep_at i xs))
          ≡ length (cond c (x ∷ keep_below (i + 1) xs) (keep_below (i + 1) xs))
      go true p true q c r e = absurd (omega (arith, ltb-true (g x) i p, eqb-true (g x) i q))
      go true p false q true r e = omega (arith, e)
      go true p false q false r e = absurd (omega (arith, ltb-true (g x) i p, ltb-false (g x) (i + 1) r))
      go false p true q true r e = omega (arith, e)
      go false p true q false r e = absurd (omega (arith, eqb-true (g x) i q, ltb-false (g x) (i + 1) r))
      go false p false q true r e = absurd (eqb-false (g x) i q (omega (arith, ltb-false (g x) i p, ltb-true (g x) (i + 1) r)))
      go false p false q false r e = e

  pub keep_none : (xs : List A) → length (keep_below 0 xs) ≡ 0
  unfolding keep
  keep_none [] = refl
  keep_none (x ∷ xs) = rw (le-ltb (g x) 0 (omega arith)) (keep_none xs)

  pub keep_all : (n : ℕ) → ((x : A) → g x < n) → (xs : List A) → length (keep_below n xs) ≡ length xs
  unfolding keep
  keep_all n h [] = refl
  keep_all n h (x ∷ xs) = rw (lt-ltb (g x) n (h x)) (ap suc (keep_all n h xs))
