-- Three elements stored at 3 f, 3 f + 1 and 3 f + 2. Assumes nothing.
use mathlib.Core.Path.{◌≡◌, refl, sym, ◌∙◌, ap, subst}
use mathlib.Core.Bool.{Bool, true, false}
use mathlib.Core.List.{List, [], ◌∷◌}
use Prim.Native.Nat.{ℕ, zero, suc, ◌+◌, ◌*◌, ◌<◌}
use native.Mathlib.Omega.{arith}
use lib.ListN.{length, get_or, set, length-set}
use lib.Seq.{get_or-set_same, get_or-set_other}
use lib.Dec.{eqb}
use borrow.Author.Tests.{eqb-true, eqb-false}

-- one place more: what holds of it, and of those before it, which are unchanged
pub one_more : {A : Type 0} (P : ℕ → A → Type 0) (f : ℕ) (new old : ℕ → A) → ((g : ℕ) → g < f → P g (old g)) → P f (new f) → ((g : ℕ) → (g ≡ f → ⊥) → new g ≡ old g) → (g : ℕ) → g < f + 1 → P g (new g)
one_more P f new old below at same g h = go (eqb g f) refl
  where
    less : (g f : ℕ) → g < f + 1 → (g ≡ f → ⊥) → g < f
    less g f h n = omega arith

    go : (b : Bool) → eqb g f ≡ b → P g (new g)
    go true e = subst (λ (g : ℕ). P g (new g)) (sym (eqb-true g f e)) at
    go false e = let n = eqb-false g f e in subst (P g) (sym (same g n)) (below g (less g f h n))

module _ {A : Type 0} (d : A) where
  -- what holds of each of three elements, by axis
  pub on_axes : (P : ℕ → A → Type 0) (x y z : A) → P 0 x → P 1 y → P 2 z → (a : ℕ) → a < 3 → P a (get_or (x ∷ y ∷ z ∷ []) a d)
  on_axes P x y z p q r zero h = p
  on_axes P x y z p q r (suc zero) h = q
  on_axes P x y z p q r (suc (suc zero)) h = r
  on_axes P x y z p q r (suc (suc (suc a))) h = absurd (omega arith)

  abbrev pub triple : List A → ℕ → A → A → A → List A
  triple l f x y z = set (set (set l (3 * f) x) (3 * f + 1) y) (3 * f + 2) z

  -- the places of the other vertices are as they were
  pub triple_other : (l : List A) (f : ℕ) (x y z : A) (g a : ℕ) → a < 3 → (g ≡ f → ⊥) → get_or (triple l f x y z) (3 * g + a) d ≡ get_or l (3 * g + a) d
  triple_other l f x y z g a h n =
      get_or-set_other (set (set l (3 * f) x) (3 * f + 1) y) (3 * f + 2) (3 * g + a) z d (λ e. n (omega arith))
      ∙ get_or-set_other (set l (3 * f) x) (3 * f + 1) (3 * g + a) y d (λ e. n (omega arith))
      ∙ get_or-set_other l (3 * f) (3 * g + a) x d (λ e. n (omega arith))

  pub triple_at : (l : List A) (f : ℕ) (x y z : A) (a : ℕ) → 3 * f + 2 < length l → a < 3 → get_or (triple l f x y z) (3 * f + a) d ≡ get_or (x ∷ y ∷ z ∷ []) a d
  triple_at l f x y z zero h k =
      ap (λ (q : ℕ). get_or (triple l f x y z) q d) (none f)
      ∙ get_or-set_other (set (set l (3 * f) x) (3 * f + 1) y) (3 * f + 2) (3 * f) z d (λ e. omega arith)
      ∙ get_or-set_other (set l (3 * f) x) (3 * f + 1) (3 * f) y d (λ e. omega arith)
      ∙ get_or-set_same l (3 * f) x d (omega arith)
    where
      none : (f : ℕ) → 3 * f + 0 ≡ 3 * f
      none f = omega arith
  triple_at l f x y z (suc zero) h k =
      get_or-set_other (set (set l (3 * f) x) (3 * f + 1) y) (3 * f + 2) (3 * f + 1) z d (λ e. omega arith)
      ∙ get_or-set_same (set l (3 * f) x) (3 * f + 1) y d (simp length-set (omega arith))
  triple_at l f x y z (suc (suc zero)) h k = get_or-set_same (set (set l (3 * f) x) (3 * f + 1) y) (3 * f + 2) z d (simp length-set (omega arith))
  triple_at l f x y z (suc (suc (suc a))) h k = absurd (omega arith)

  -- one vertex more: what holds of its three elements, and of those before it
  pub triple_more : (P : ℕ → ℕ → A → Type 0) (l : List A) (f : ℕ) (x y z : A) → 3 * f + 2 < length l → ((a g : ℕ) → a < 3 → g < f → P a g (get_or l (3 * g + a) d)) → P 0 f x → P 1 f y → P 2 f z
      → (a g : ℕ) → a < 3 → g < f + 1 → P a g (get_or (triple l f x y z) (3 * g + a) d)
  triple_more P l f x y z fits below p q r a g h =
      one_more (P a) f (λ (g : ℕ). get_or (triple l f x y z) (3 * g + a) d) (λ (g : ℕ). get_or l (3 * g + a) d) (λ g k. below a g h k)
      (subst (P a f) (sym (triple_at l f x y z a fits h)) (on_axes (λ (a : ℕ) (x : A). P a f x) x y z p q r a h)) (λ g n. triple_other l f x y z g a h n) g
