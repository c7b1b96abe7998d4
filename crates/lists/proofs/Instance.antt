-- Both statements at small lists, where they hold and where they do not: so neither is empty. Assumes nothing.
use mathlib.Core.Path.{◌≡◌, refl}
use mathlib.Core.Logic.{inl, inr, ⊎_elim}
use mathlib.Core.List.{[], ◌∷◌}
use Prim.Native.Nat.{ℕ}
use native.Mathlib.Omega.{arith}
use Rattle.lists.specs.Membership.{In, Once}

pub in_second : In {A = ℕ} 2 (1 ∷ 2 ∷ [])
in_second = search (inl, inr)

pub in_neither : In {A = ℕ} 3 (1 ∷ 2 ∷ []) → ⊥
in_neither h = ⊎_elim (λ (e : 3 ≡ 1). omega (arith, e)) (λ (i : In {A = ℕ} 3 (2 ∷ [])). ⊎_elim (λ (e : 3 ≡ 2). omega (arith, e)) (λ (j : ⊥). j) i) h

pub once_different : Once {A = ℕ} (1 ∷ 2 ∷ [])
once_different = (λ i. ⊎_elim (λ (e : 1 ≡ 2). omega (arith, e)) (λ (j : ⊥). j) i, (λ i. i, tt))

pub once_repeated : Once {A = ℕ} (1 ∷ 2 ∷ 2 ∷ []) → ⊥
once_repeated h = let rest : Once {A = ℕ} (2 ∷ 2 ∷ []) = h.1 in rest.0 (inl refl)
