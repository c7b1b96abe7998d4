-- What holds of each element of a list: at a place, by membership, in joined lists.
use mathlib.Core.Path.{◌≡◌, refl}
use mathlib.Core.Logic.{◌↔◌, inl, inr, ⊎_elim}
use mathlib.Core.List.{List, [], ◌∷◌, ◌++◌}
use Prim.Native.Nat.{ℕ, zero, suc, ◌<◌}
use native.Mathlib.Nat.{le_of_suc-le-suc, not-suc-le-zero}
use lib.ListN.{length, get_or}
use Rattle.rules.specs.Lists.{Each, concat_map}
use Rattle.lists.specs.Membership.{In}

module _ {A : Type 0} (P : A → Type 0) where
  pub each_at : (xs : List A) (d : A) (i : ℕ) → Each P xs → i < length xs → P (get_or xs i d)
  each_at [] d i e h = absurd (not-suc-le-zero h)
  each_at (x ∷ xs) d zero e h = e.0
  each_at (x ∷ xs) d (suc i) e h = each_at xs d i e.1 (le_of_suc-le-suc h)

  pub each_in : (xs : List A) → Each P xs ↔ ((x : A) → In x xs → P x)
  each_in [] = (λ e x i. absurd i, λ f. tt)
  each_in (x ∷ xs) =
      let r = each_in xs in (
        λ e y i. ⊎_elim (λ (q : y ≡ x). rw q e.0) (λ (j : In y xs). r.0 e.1 y j) i,
        λ f. (f x (inl refl), r.1 (λ y j. f y (inr j))),
      )

  pub each_append : (xs ys : List A) → Each P (xs ++ ys) ↔ (Each P xs × Each P ys)
  each_append [] ys = (λ e. (tt, e), λ e. e.1)
  each_append (x ∷ xs) ys =
      let r = each_append xs ys in
      (λ e. ((e.0, (r.0 e.1).0), (r.0 e.1).1), λ e. (e.0.0, r.1 (e.0.1, e.1)))

module _ {A B : Type 0} where
  pub each_concat_map : (P : B → Type 0) (f : A → List B) (xs : List A) → Each P (concat_map f xs) ↔ Each (λ (x : A). Each P (f x)) xs
  unfolding concat_map
  each_concat_map P f [] = (λ e. tt, λ e. tt)
  each_concat_map P f (x ∷ xs) =
      let s = each_append P (f x) (concat_map f xs) in
      let r = each_concat_map P f xs in
      (λ e. ((s.0 e).0, r.0 (s.0 e).1), λ e. s.1 (e.0, r.1 e.1))
