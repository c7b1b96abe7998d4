-- Tests over lists decide statements over lists, either way round. Assumes nothing.
use mathlib.Core.Path.{◌≡◌, refl, sym, ap, ◌∙◌, subst}
use mathlib.Core.Bool.{Bool, true, false, ◌&&◌, ◌||◌}
use mathlib.Core.Logic.{◌⊎◌, inl, inr}
use mathlib.Core.List.{List, [], ◌∷◌, ◌++◌, map}
use Prim.Native.Nat.{ℕ, suc, ◌<◌}
use native.Mathlib.Omega.{arith}
use lib.ListN.{length, get_or, take}
use lib.Seq.{take-suc}
use lib.Dec.{eqb}
use borrow.Author.Tests.{eqb-true, eq-eqb}
use Rattle.rules.specs.Lists.{any, repeats, concat, has}
use Rattle.lists.specs.Membership.{In, Once}
use Rattle.lists.proofs.Membership.{get_or_in, in_get_or}

-- ---- true and false

pub false≢true : false ≡ true → ⊥
false≢true e = let z : ◌≡◌ {A = ℕ} 0 1 = cc in omega arith

pub either : (b : Bool) → (b ≡ true) ⊎ (b ≡ false)
either true = inl refl
either false = inr refl

-- a test that is not true is false
pub is_false : (b : Bool) → (b ≡ true → ⊥) → b ≡ false
is_false true h = absurd (h refl)
is_false false h = refl

-- tests that fail together are equal
pub false_together : (a b : Bool) → (a ≡ false → b ≡ false) → (b ≡ false → a ≡ false) → a ≡ b
false_together true true f g = refl
false_together true false f g = g refl
false_together false true f g = sym (f refl)
false_together false false f g = refl

pub and_both : (p q : Bool) → (p && q) ≡ true → (p ≡ true) × (q ≡ true)
and_both true q h = (refl, h)
and_both false q h = absurd (false≢true h)

pub both_and : (p q : Bool) → p ≡ true → q ≡ true → (p && q) ≡ true
both_and p q h k = rw (h, k)

pub and_false : (p q : Bool) → (p && q) ≡ false → p ≡ true → q ≡ false
and_false true q h k = h
and_false false q h k = absurd (false≢true k)

pub false_and : (p q : Bool) → (p ≡ true → q ≡ false) → (p && q) ≡ false
false_and true q h = h refl
false_and false q h = refl

pub or_neither : (p q : Bool) → (p || q) ≡ false → (p ≡ false) × (q ≡ false)
or_neither true q h = absurd (false≢true (sym h))
or_neither false q h = (refl, h)

pub neither_or : (p q : Bool) → p ≡ false → q ≡ false → (p || q) ≡ false
neither_or p q h k = rw (h, k)

pub or_true : (p : Bool) → (p || true) ≡ true
or_true true = refl
or_true false = refl

pub or_false : (p : Bool) → (p || false) ≡ p
or_false true = refl
or_false false = refl

pub or_assoc : (p q r : Bool) → ((p || q) || r) ≡ (p || (q || r))
or_assoc true q r = refl
or_assoc false q r = refl

module _ {A : Type 0} where
  -- ---- some element passes

  pub any_in : (p : A → Bool) (xs : List A) → any p xs ≡ true → (x : A) × In x xs × (p x ≡ true)
  unfolding any
  any_in p [] h = absurd (false≢true h)
  any_in p (y ∷ xs) h = go (p y) refl h (any_in p xs)
    where
      go :
          (b : Bool) → p y ≡ b → (b || any p xs) ≡ true → (any p xs ≡ true → (x : A) × In x xs × (p x ≡ true)) →
          (x : A) × In x (y ∷ xs) × (p x ≡ true)
      go true e k ih = (y, inl refl, e)
      go false e k ih = let r = ih k in (r.0, inr r.1, r.2)

  pub in_any : (p : A → Bool) (xs : List A) (x : A) → In x xs → p x ≡ true → any p xs ≡ true
  unfolding any
  in_any p [] x x4 h = elim x4 [ ]
  in_any p (y ∷ xs) x (inl e) h = let k : p y ≡ true = ap p (sym e) ∙ h in rw k refl
  in_any p (y ∷ xs) x (inr k) h = ap (λ (b : Bool). p y || b) (in_any p xs x k h) ∙ or_true (p y)

  -- ---- none passes

  pub none_in : (p : A → Bool) (xs : List A) → any p xs ≡ false → (x : A) → In x xs → p x ≡ false
  none_in p xs h x i = is_false (p x) (λ k. false≢true (sym h ∙ in_any p xs x i k))

  pub in_none : (p : A → Bool) (xs : List A) → ((x : A) → In x xs → p x ≡ false) → any p xs ≡ false
  in_none p xs h = is_false (any p xs) (λ k. let r = any_in p xs k in false≢true (sym (h r.0 r.1) ∙ r.2))

  -- the same by places
  pub none_at : (p : A → Bool) (xs : List A) (d : A) → any p xs ≡ false → (i : ℕ) → i < length xs → p (get_or xs i d) ≡ false
  none_at p xs d h i l = none_in p xs h (get_or xs i d) (get_or_in xs i d l)

  pub at_none : (p : A → Bool) (xs : List A) (d : A) → ((i : ℕ) → i < length xs → p (get_or xs i d) ≡ false) → any p xs ≡ false
  at_none p xs d h = in_none p xs (λ x k. let r = in_get_or xs x d k in ap p (sym r.2) ∙ h r.0 r.1)

  -- ---- lists joined and mapped

  pub any_append : (p : A → Bool) (xs ys : List A) → any p (xs ++ ys) ≡ (any p xs || any p ys)
  unfolding any
  any_append p [] ys = refl
  any_append p (x ∷ xs) ys = ap (λ (b : Bool). p x || b) (any_append p xs ys) ∙ sym (or_assoc (p x) (any p xs) (any p ys))

  pub any_concat : (p : A → Bool) (xss : List (List A)) → any p (concat xss) ≡ any (any p) xss
  unfolding any concat
  any_concat p [] = refl
  any_concat p (xs ∷ xss) = any_append p xs (concat xss) ∙ ap (λ (b : Bool). any p xs || b) (any_concat p xss)

  pub any_same : (p q : A → Bool) (xs : List A) → ((x : A) → In x xs → p x ≡ q x) → any p xs ≡ any q xs
  unfolding any
  any_same p q [] h = refl
  any_same p q (x ∷ xs) h =
      let e = h x (inl refl) in
      let f = any_same p q xs (λ y i. h y (inr i)) in
      cc

  -- one element more is looked at: a loop's turn
  pub any_turn : (p : A → Bool) (xs : List A) (i : ℕ) (d : A) → i < length xs → any p (take (suc i) xs) ≡ (any p (take i xs) || p (get_or xs i d))
  unfolding any
  any_turn p xs i d h =
      ap (any p) (take-suc xs i d h) ∙ any_append p (take i xs) (get_or xs i d ∷ [])
      ∙ ap (λ (b : Bool). any p (take i xs) || b) (or_false (p (get_or xs i d)))

module _ {A B : Type 0} where
  pub any_map : (p : B → Bool) (f : A → B) (xs : List A) → any p (map f xs) ≡ any (λ (x : A). p (f x)) xs
  unfolding any
  any_map p f [] = refl
  any_map p f (x ∷ xs) = ap (λ (b : Bool). p (f x) || b) (any_map p f xs)

-- ---- membership of a number

pub has_in : (x : ℕ) (ys : List ℕ) → has x ys ≡ true → In x ys
unfolding has
has_in x ys h = let r = any_in (eqb x) ys h in subst (λ (z : ℕ). In z ys) (sym (eqb-true x r.0 r.2)) r.1

pub in_has : (x : ℕ) (ys : List ℕ) → In x ys → has x ys ≡ true
unfolding has
in_has x ys h = in_any (eqb x) ys x h (eq-eqb x x refl)

pub has_not : (x : ℕ) (ys : List ℕ) → has x ys ≡ false → In x ys → ⊥
has_not x ys h i = false≢true (sym h ∙ in_has x ys i)

pub not_has : (x : ℕ) (ys : List ℕ) → (In x ys → ⊥) → has x ys ≡ false
not_has x ys h = is_false (has x ys) (λ k. h (has_in x ys k))

-- ---- repeats, by a test of equality

module _ {A : Type 0} (equal : A → A → Bool) where
  pub once_repeats : ((x y : A) → equal x y ≡ true → x ≡ y) → (xs : List A) → Once xs → repeats equal xs ≡ false
  unfolding repeats
  once_repeats r [] h = refl
  once_repeats r (x ∷ xs) h =
      neither_or (any (equal x) xs) (repeats equal xs)
      (is_false (any (equal x) xs) (λ k. let a = any_in (equal x) xs k in h.0 (subst (λ (z : A). In z xs) (sym (r x a.0 a.2)) a.1)))
      (once_repeats r xs h.1)

  pub repeats_once : ((x : A) → equal x x ≡ true) → (xs : List A) → repeats equal xs ≡ false → Once xs
  unfolding repeats
  repeats_once r [] h = tt
  repeats_once r (x ∷ xs) h =
      let b = or_neither (any (equal x) xs) (repeats equal xs) h in
      ((λ i. false≢true (sym b.0 ∙ in_any (equal x) xs x i (r x))), repeats_once r xs b.1)

pub repeats_once_numbers : (xs : List ℕ) → repeats eqb xs ≡ false → Once xs
repeats_once_numbers xs h = repeats_once eqb (λ x. eq-eqb x x refl) xs h

pub once_repeats_numbers : (xs : List ℕ) → Once xs → repeats eqb xs ≡ false
once_repeats_numbers xs h = once_repeats eqb eqb-true xs h
