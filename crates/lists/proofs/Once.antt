-- Lists without repeats: how they are made, and that their length is decided by their members. Assumes nothing.
use mathlib.Core.Path.{◌≡◌, refl, sym, ap, ◌∙◌, subst}
use mathlib.Core.Bool.{Bool, true, false, cond}
use mathlib.Core.Logic.{◌⊎◌, inl, inr, ⊎_elim}
use mathlib.Core.List.{List, [], ◌∷◌, ◌++◌, map, append_assoc}
use Prim.Native.Nat.{ℕ, zero, suc, ◌*◌, ◌≤◌, ◌<◌, zero-le}
use native.Mathlib.Omega.{arith}
use lib.ListN.{length, get_or, length-append}
use Rattle.rules.specs.Lists.{keep, concat_map, up_from}
use Rattle.lists.specs.Membership.{In, Once}
use Rattle.lists.proofs.Membership.{in_append, in_keep, map_in, in_map, in_concat_map, in_up_from, get_or_in, in_get_or}

module _ {A : Type 0} where
  pub once_append : (xs ys : List A) → Once xs → Once ys → ((x : A) → In x xs → In x ys → ⊥) → Once (xs ++ ys)
  once_append [] ys h k d = k
  once_append (x ∷ xs) ys h k d = (
    (λ i. ⊎_elim h.0 (d x (inl refl)) (in_append x xs ys i)),
    once_append xs ys h.1 k (λ y i j. d y (inr i) j),
  )

  pub once_keep : (p : A → Bool) (xs : List A) → Once xs → Once (keep p xs)
  unfolding keep
  once_keep p [] h = tt
  once_keep p (x ∷ xs) h = go (p x) (once_keep p xs h.1)
    where
      go : (b : Bool) → Once (keep p xs) → Once (cond b (x ∷ keep p xs) (keep p xs))
      go true k = ((λ i. h.0 (in_keep p xs x i).0), k)
      go false k = k

  -- two places that hold the same are one
  pub once_place : (xs : List A) (d : A) → Once xs → (i j : ℕ) → i < length xs → j < length xs → get_or xs i d ≡ get_or xs j d → i ≡ j
  once_place [] d h i j k l e = absurd (omega arith)
  once_place (x ∷ xs) d h zero zero k l e = refl
  once_place (x ∷ xs) d h zero (suc j) k l e = absurd (h.0 (subst (λ (z : A). In z xs) (sym e) (get_or_in xs j d (omega arith))))
  once_place (x ∷ xs) d h (suc i) zero k l e = absurd (h.0 (subst (λ (z : A). In z xs) e (get_or_in xs i d (omega arith))))
  once_place (x ∷ xs) d h (suc i) (suc j) k l e = ap suc (once_place xs d h.1 i j (omega arith) (omega arith) e)

  pub place_once : (xs : List A) (d : A) → ((i j : ℕ) → i < length xs → j < length xs → get_or xs i d ≡ get_or xs j d → i ≡ j) → Once xs
  place_once [] d h = tt
  place_once (x ∷ xs) d h = (
    (λ i.
        let r = in_get_or xs x d i in
        let e : 0 ≡ suc r.0 = h 0 (suc r.0) (omega arith) (omega (arith, r.1)) (sym r.2) in
        omega (arith, e)),
    place_once xs d (λ i j k l e. let p : suc i ≡ suc j = h (suc i) (suc j) (omega arith) (omega arith) e in omega (arith, p)),
  )

  -- ---- a list without repeats whose elements are all in a second list is not longer

  record Without (x : A) (ys : List A) : Type 0 where
    rest : List A
    count : length ys ≡ suc (length rest)
    others : (y : A) → In y ys → (y ≡ x) ⊎ In y rest

  without : (x : A) (ys : List A) → In x ys → Without x ys
  without x [] x'' = elim x'' [ ]
  without x (y ∷ ys) (inl e) = record { rest = ys; count = refl; others = λ z h. ⊎_elim (λ (k : z ≡ y). inl (k ∙ sym e)) inr h }
  without x (y ∷ ys) (inr h) =
      let r = without x ys h in
      record {
        rest = y ∷ r.rest;
        count = ap suc r.count;
        others = λ z k. ⊎_elim (λ (e : z ≡ y). inr (inl e)) (λ (i : In z ys). ⊎_elim inl (λ (j : In z r.rest). inr (inr j)) (r.others z i)) k;
      }

  pub length_within : (xs ys : List A) → Once xs → ((x : A) → In x xs → In x ys) → length xs ≤ length ys
  length_within [] ys h s = zero-le
  length_within (x ∷ xs) ys h s =
      let r = without x ys (s x (inl refl)) in
      let l : length xs ≤ length r.rest =
      length_within xs r.rest h.1
      (λ y k. ⊎_elim (λ (e : y ≡ x). absurd (h.0 (subst (λ (z : A). In z xs) e k))) (λ (j : In y r.rest). j) (r.others y (s y (inr k)))) in
      omega (arith, r.count)

  pub length_same : (xs ys : List A) → Once xs → Once ys → ((x : A) → In x xs → In x ys) → ((x : A) → In x ys → In x xs) → length xs ≡ length ys
  length_same xs ys h k s t = omega (arith, length_within xs ys h s, length_within ys xs k t)

module _ {A B : Type 0} where
  pub once_map : (f : A → B) (xs : List A) → Once xs → ((x y : A) → In x xs → In y xs → f x ≡ f y → x ≡ y) → Once (map f xs)
  once_map f [] h inj = tt
  once_map f (x ∷ xs) h inj = (
    (λ i. let r = in_map f xs (f x) i in h.0 (subst (λ (z : A). In z xs) (sym (inj x r.0 (inl refl) (inr r.1) r.2)) r.1)),
    once_map f xs h.1 (λ y z i j. inj y z (inr i) (inr j)),
  )

  -- the other way round: no repeats among the images, so equal images have equal sources
  pub once_inj : (f : A → B) (xs : List A) → Once (map f xs) → (x y : A) → In x xs → In y xs → f x ≡ f y → x ≡ y
  once_inj f [] h x y x6 _ p = elim x6 [ ]
  once_inj f (z ∷ xs) h x y (inl e) (inl k) p = e ∙ sym k
  once_inj f (z ∷ xs) h x y (inl e) (inr k) p = absurd (h.0 (subst (λ (w : B). In w (map f xs)) (sym p ∙ ap f e) (map_in f xs y k)))
  once_inj f (z ∷ xs) h x y (inr e) (inl k) p = absurd (h.0 (subst (λ (w : B). In w (map f xs)) (p ∙ ap f k) (map_in f xs x e)))
  once_inj f (z ∷ xs) h x y (inr e) (inr k) p = once_inj f xs h.1 x y e k p

  pub once_source : (f : A → B) (xs : List A) → Once (map f xs) → Once xs
  once_source f [] h = tt
  once_source f (x ∷ xs) h = ((λ i. h.0 (map_in f xs x i)), once_source f xs h.1)

  -- lists without repeats, no two of which share an element
  pub once_concat_map :
      (f : A → List B) (xs : List A) → Once xs → ((x : A) → In x xs → Once (f x)) →
      ((x y : A) (z : B) → In x xs → In y xs → In z (f x) → In z (f y) → x ≡ y) → Once (concat_map f xs)
  unfolding concat_map
  once_concat_map f [] h k d = tt
  once_concat_map f (x ∷ xs) h k d =
      once_append (f x) (concat_map f xs) (k x (inl refl))
      (once_concat_map f xs h.1 (λ y i. k y (inr i)) (λ y z w i j. d y z w (inr i) (inr j)))
      (λ z i j. let r = in_concat_map f xs z j in h.0 (subst (λ (w : A). In w xs) (sym (d x r.0 z (inl refl) (inr r.1) i r.2)) r.1))

  pub length_concat_map : (f : A → List B) (n : ℕ) (xs : List A) → ((x : A) → In x xs → length (f x) ≡ n) → length (concat_map f xs) ≡ n * length xs
  unfolding concat_map
  length_concat_map f n [] h = omega arith
  length_concat_map f n (x ∷ xs) h =
      length-append (f x) (concat_map f xs) ∙ omega (arith, h x (inl refl), length_concat_map f n xs (λ y i. h y (inr i)))

  pub concat_map_append : (f : A → List B) (xs ys : List A) → concat_map f (xs ++ ys) ≡ concat_map f xs ++ concat_map f ys
  unfolding concat_map
  concat_map_append f [] ys = refl
  concat_map_append f (x ∷ xs) ys =
      ap (λ (l : List B). f x ++ l) (concat_map_append f xs ys) ∙ sym (append_assoc (f x) (concat_map f xs) (concat_map f ys))

  -- for each element a source that is good, chosen: the list of the sources
  pub sources :
      (f : A → B) (Good : A → Type 0) (ys : List B) → ((y : B) → In y ys → (x : A) × (f x ≡ y) × Good x) →
      (xs : List A) × (map f xs ≡ ys) × ((x : A) → In x xs → Good x)
  sources f Good [] h = ([], refl, λ x i. absurd i)
  sources f Good (y ∷ ys) h =
      let s = h y (inl refl) in
      let r = sources f Good ys (λ z i. h z (inr i)) in (
        s.0 ∷ r.0,
        both s.1 r.1,
        λ x i. ⊎_elim (λ (e : x ≡ s.0). subst Good (sym e) s.2) (λ (j : In x r.0). r.2 x j) i,
      )
    where
      both : {a b : B} {s t : List B} → a ≡ b → s ≡ t → ◌≡◌ {A = List B} (a ∷ s) (b ∷ t)
      both p q = cc

pub once_up_from : (a n : ℕ) → Once (up_from a n)
unfolding up_from
once_up_from a zero = tt
once_up_from a (suc n) = ((λ i. omega (arith, in_up_from (suc a) n a i)), once_up_from (suc a) n)
