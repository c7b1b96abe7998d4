-- Finite statements: a statement over lists, and its decision in the same shape, which antt computes. Assumes nothing.
use mathlib.Core.Path.{◌≡◌, refl, sym, subst}
use mathlib.Core.Bool.{Bool, true, false}
use mathlib.Core.Logic.{◌⊎◌, inl, inr, ⊎_elim}
use mathlib.Core.List.{List, [], ◌∷◌}
use Prim.Native.Nat.{ℕ, ◌<◌}
use lib.Dec.{eqb, ltb}
use borrow.Author.Tests.{eqb-true, eq-eqb, ltb-true, lt-ltb}
use Rattle.rules.specs.Lists.{Key, same}
use Rattle.lists.specs.Membership.{In, Once}
use Rattle.lists.proofs.Tests.{false≢true}
use Rattle.lists.proofs.Keys.{same_eq, eq_same}

-- a decision that computed to yes is a proof
module _ {A : Type 0} where
  abbrev pub Yes : Dec A → Type 0
  Yes (yes a) = Unit {0}
  Yes (no h) = ⊥

  pub computed : (d : Dec A) → Yes d → A
  computed (yes a) h = a
  computed (no n) h = absurd h

module _ {A B : Type 0} where
  abbrev pub dec_either : Dec A → Dec B → Dec (A ⊎ B)
  dec_either (yes a) d = yes (inl a)
  dec_either (no n) (yes b) = yes (inr b)
  dec_either (no n) (no k) = no (λ s. ⊎_elim n k s)

  abbrev pub dec_both : Dec A → Dec B → Dec (A × B)
  dec_both (yes a) (yes b) = yes (a, b)
  dec_both (yes a) (no k) = no (λ p. k p.1)
  dec_both (no n) d = no (λ p. n p.0)

  abbrev pub dec_if : Dec A → Dec B → Dec (A → B)
  dec_if (yes a) (yes b) = yes (λ x. b)
  dec_if (yes a) (no k) = no (λ f. k (f a))
  dec_if (no n) d = yes (λ x. absurd (n x))

module _ {A P : Type 0} where
  abbrev pub put_if : Dec P → A → List A → List A
  put_if (yes a) x l = x ∷ l
  put_if (no n) x l = l

module _ {A : Type 0} {P : A → Type 0} (d : (x : A) → Dec (P x)) where
  abbrev pub dec_each : (xs : List A) → Dec ((x : A) → In x xs → P x)
  dec_each [] = yes (λ x i. absurd i)
  dec_each (x ∷ xs) = go (d x) (dec_each xs)
    where
      go : Dec (P x) → Dec ((y : A) → In y xs → P y) → Dec ((y : A) → In y (x ∷ xs) → P y)
      go (yes a) (yes h) = yes (λ y i. ⊎_elim (λ (e : y ≡ x). subst P (sym e) a) (λ (j : In y xs). h y j) i)
      go (yes a) (no n) = no (λ h. n (λ y i. h y (inr i)))
      go (no n) r = no (λ h. n (h x (inl refl)))

  abbrev pub dec_some : (xs : List A) → Dec ((x : A) × In x xs × P x)
  dec_some [] = no (λ s. s.1)
  dec_some (x ∷ xs) = go (d x) (dec_some xs)
    where
      go : Dec (P x) → Dec ((y : A) × In y xs × P y) → Dec ((y : A) × In y (x ∷ xs) × P y)
      go (yes a) r = yes (x, inl refl, a)
      go (no n) (yes s) = yes (s.0, inr s.1, s.2)
      go (no n) (no k) = no (λ s. ⊎_elim (λ (e : s.0 ≡ x). n (subst P e s.2)) (λ (i : In s.0 xs). k (s.0, i, s.2)) s.1)

  -- the elements of which it holds
  unfoldable pub keep_if : List A → List A
  keep_if [] = []
  keep_if (x ∷ xs) = put_if (d x) x (keep_if xs)

  pub keep_if_in : (xs : List A) (x : A) → In x xs → P x → In x (keep_if xs)
  unfolding keep_if
  keep_if_in [] x i h = elim i [ ]
  keep_if_in (y ∷ xs) x i h = go (d y) i (λ j. keep_if_in xs x j h)
    where
      go : (t : Dec (P y)) → In x (y ∷ xs) → (In x xs → In x (keep_if xs)) → In x (put_if t y (keep_if xs))
      go (yes a) (inl e) k = inl e
      go (yes a) (inr j) k = inr (k j)
      go (no n) (inl e) k = absurd (n (subst P e h))
      go (no n) (inr j) k = k j

  pub in_keep_if : (xs : List A) (x : A) → In x (keep_if xs) → In x xs × P x
  unfolding keep_if
  in_keep_if [] x i = elim i [ ]
  in_keep_if (y ∷ xs) x i = go (d y) i (in_keep_if xs x)
    where
      go : (t : Dec (P y)) → In x (put_if t y (keep_if xs)) → (In x (keep_if xs) → In x xs × P x) → In x (y ∷ xs) × P x
      go (yes a) (inl e) k = (inl e, subst P (sym e) a)
      go (yes a) (inr j) k = let r = k j in (inr r.0, r.1)
      go (no n) j k = let r = k j in (inr r.0, r.1)

  pub once_keep_if : (xs : List A) → Once xs → Once (keep_if xs)
  unfolding keep_if
  once_keep_if [] h = tt
  once_keep_if (y ∷ xs) h = go (d y) (once_keep_if xs h.1)
    where
      go : (t : Dec (P y)) → Once (keep_if xs) → Once (put_if t y (keep_if xs))
      go (yes a) k = ((λ i. h.0 (in_keep_if xs y i).0), k)
      go (no n) k = k

-- from a test to a decision
module _ {P : Type 0} where
  abbrev pub by_test : (b : Bool) → (b ≡ true → P) → (P → b ≡ true) → Dec P
  by_test true f g = yes (f refl)
  by_test false f g = no (λ p. false≢true (g p))

abbrev pub dec_number : (a b : ℕ) → Dec (a ≡ b)
dec_number a b = by_test (eqb a b) (eqb-true a b) (eq-eqb a b)

abbrev pub dec_below : (a b : ℕ) → Dec (a < b)
dec_below a b = by_test (ltb a b) (ltb-true a b) (lt-ltb a b)

abbrev pub dec_key : (a b : Key) → Dec (a ≡ b)
dec_key a b = by_test (same a b) (same_eq a b) (eq_same a b)

module _ {A : Type 0} (t : (x y : A) → Dec (x ≡ y)) where
  abbrev pub dec_in : (x : A) (xs : List A) → Dec (In x xs)
  dec_in x [] = no (λ i. i)
  dec_in x (y ∷ ys) = dec_either (t x y) (dec_in x ys)

  abbrev pub dec_once : (xs : List A) → Dec (Once xs)
  dec_once [] = yes tt
  dec_once (x ∷ xs) = dec_both (dec_if (dec_in x xs) (no (λ z. z))) (dec_once xs)
