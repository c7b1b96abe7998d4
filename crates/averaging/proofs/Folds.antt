-- Steps over the elements of a list, one after another. Assumes nothing.
use mathlib.Core.Path.{◌≡◌, refl, ap, ◌∙◌}
use mathlib.Core.List.{List, [], ◌∷◌, ◌++◌}
use Prim.Native.Nat.{ℕ, zero, suc}
use lib.ListN.{length, get_or}
use Rattle.rules.specs.Lists.{concat_map}
use Rattle.averaging.specs.Tally.{Tally, repeat}

module _ {A : Type 0} where
  abbrev pub fold_over : (A → Tally → Tally) → List A → Tally → Tally
  fold_over step [] t = t
  fold_over step (x ∷ xs) t = fold_over step xs (step x t)

  fold_append : (step : A → Tally → Tally) (xs ys : List A) (t : Tally) → fold_over step (xs ++ ys) t ≡ fold_over step ys (fold_over step xs t)
  fold_append step [] ys t = refl
  fold_append step (x ∷ xs) ys t = fold_append step xs ys (step x t)

pub fold_concat_map : {A B : Type 0} (step : B → Tally → Tally) (g : A → List B) (xs : List A) (t : Tally) → fold_over step (concat_map g xs) t ≡ fold_over (λ (x : A). fold_over step (g x)) xs t
unfolding concat_map
fold_concat_map step g [] t = refl
fold_concat_map step g (x ∷ xs) t = fold_append step (g x) (concat_map g xs) t ∙ fold_concat_map step g xs (fold_over step (g x) t)

-- the first step apart
repeat_first : (n : ℕ) (step : ℕ → ℕ → Tally → Tally) (f : ℕ) (t : Tally) → repeat (suc n) step f t ≡ repeat n (λ (i : ℕ). step (suc i)) f (step 0 f t)
unfolding repeat
repeat_first zero step f t = refl
repeat_first (suc n) step f t = ap (step (suc n) f) (repeat_first n step f t)

-- by the elements' places
pub fold_places : {A : Type 0} (step : A → ℕ → Tally → Tally) (xs : List A) (d : A) (f : ℕ) (t : Tally) → repeat (length xs) (λ (i : ℕ). step (get_or xs i d)) f t ≡ fold_over (λ (x : A). step x f) xs t
unfolding repeat
fold_places step [] d f t = refl
fold_places step (x ∷ xs) d f t = repeat_first (length xs) (λ (i : ℕ). step (get_or (x ∷ xs) i d)) f t ∙ fold_places step xs d f (step x f t)
