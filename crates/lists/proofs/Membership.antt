-- Membership: in-F says what follows from being in F, F-in what it takes to be in it. Assumes nothing.
use mathlib.Core.Path.{◌≡◌, refl, sym, ap, ◌∙◌, subst}
use mathlib.Core.Bool.{Bool, true, false, cond}
use mathlib.Core.Logic.{◌⊎◌, inl, inr, ⊎_elim}
use mathlib.Core.List.{List, [], ◌∷◌, ◌++◌, map}
use Prim.Native.Nat.{ℕ, zero, suc, ◌+◌, ◌≤◌, ◌<◌, zero-le, suc-le-suc}
use native.Mathlib.Nat.{eq-or-lt_of_le, zero-add, add-zero}
use native.Mathlib.Omega.{arith}
use lib.ListN.{length, get_or, replicate}
use Rattle.rules.specs.Lists.{keep, concat, concat_map, up_from}
use Rattle.lists.specs.Membership.{In}

module _ {A : Type 0} where
  pub in_left : (x : A) (s t : List A) → In x s → In x (s ++ t)
  in_left x [] t x'' = elim x'' [ ]
  in_left x (y ∷ s) t (inl e) = inl e
  in_left x (y ∷ s) t (inr h) = inr (in_left x s t h)

  pub in_right : (x : A) (s t : List A) → In x t → In x (s ++ t)
  in_right x [] t h = h
  in_right x (y ∷ s) t h = inr (in_right x s t h)

  pub in_append : (x : A) (s t : List A) → In x (s ++ t) → In x s ⊎ In x t
  in_append x [] t h = inr h
  in_append x (y ∷ s) t (inl e) = inl (inl e)
  in_append x (y ∷ s) t (inr h) = ⊎_elim (λ (k : In x s). inl (inr k)) (λ (k : In x t). inr k) (in_append x s t h)

  -- ---- by places

  pub get_or_in : (xs : List A) (i : ℕ) (d : A) → i < length xs → In (get_or xs i d) xs
  get_or_in [] i d h = absurd (omega arith)
  get_or_in (x ∷ xs) zero d h = inl refl
  get_or_in (x ∷ xs) (suc i) d h = inr (get_or_in xs i d (omega arith))

  pub in_get_or : (xs : List A) (x d : A) → In x xs → (i : ℕ) × (i < length xs) × (get_or xs i d ≡ x)
  in_get_or [] x d x3 = elim x3 [ ]
  in_get_or (y ∷ xs) x d (inl e) = (zero, suc-le-suc zero-le, sym e)
  in_get_or (y ∷ xs) x d (inr h) = let r = in_get_or xs x d h in (suc r.0, suc-le-suc r.1, r.2)

  pub in_some : (xs : List A) (x : A) → In x xs → 0 < length xs
  in_some [] x h = elim h [ ]
  in_some (y ∷ xs) x h = suc-le-suc zero-le

  -- within its length, what a list holds at a place does not depend on the default
  pub get_or_default : (xs : List A) (i : ℕ) (d e : A) → i < length xs → get_or xs i d ≡ get_or xs i e
  get_or_default [] i d e h = absurd (omega arith)
  get_or_default (x ∷ xs) zero d e h = refl
  get_or_default (x ∷ xs) (suc i) d e h = get_or_default xs i d e (omega arith)

  -- ---- the elements that pass a test

  pub keep_in : (p : A → Bool) (xs : List A) (x : A) → In x xs → p x ≡ true → In x (keep p xs)
  unfolding keep
  keep_in p [] x x4 h = elim x4 [ ]
  keep_in p (y ∷ xs) x (inl e) h = let k : p y ≡ true = ap p (sym e) ∙ h in rw k (inl e)
  keep_in p (y ∷ xs) x (inr i) h = go (p y) (keep_in p xs x i h)
    where
      go : (b : Bool) → In x (keep p xs) → In x (cond b (y ∷ keep p xs) (keep p xs))
      go true k = inr k
      go false k = k

  pub in_keep : (p : A → Bool) (xs : List A) (x : A) → In x (keep p xs) → In x xs × (p x ≡ true)
  unfolding keep
  in_keep p [] x h = elim h [ ]
  in_keep p (y ∷ xs) x h = go (p y) refl h (in_keep p xs x)
    where
      go :
          (b : Bool) → p y ≡ b → In x (cond b (y ∷ keep p xs) (keep p xs)) → (In x (keep p xs) → In x xs × (p x ≡ true)) →
          In x (y ∷ xs) × (p x ≡ true)
      go true e (inl q) f = (inl q, ap p q ∙ e)
      go true e (inr k) f = (inr (f k).0, (f k).1)
      go false e k f = (inr (f k).0, (f k).1)

  pub length_keep : (p : A → Bool) (xs : List A) → length (keep p xs) ≤ length xs
  unfolding keep
  length_keep p [] = zero-le
  length_keep p (x ∷ xs) = go (p x) (length_keep p xs)
    where
      go : (b : Bool) → length (keep p xs) ≤ length xs → length (cond b (x ∷ keep p xs) (keep p xs)) ≤ suc (length xs)
      go true h = suc-le-suc h
      go false h = omega arith

  -- ---- lists joined

  pub concat_in : (xss : List (List A)) (xs : List A) (x : A) → In xs xss → In x xs → In x (concat xss)
  unfolding concat
  concat_in [] xs x x4 h = elim x4 [ ]
  concat_in (ys ∷ xss) xs x (inl e) h = in_left x ys (concat xss) (subst (λ (s : List A). In x s) e h)
  concat_in (ys ∷ xss) xs x (inr k) h = in_right x ys (concat xss) (concat_in xss xs x k h)

  pub in_concat : (xss : List (List A)) (x : A) → In x (concat xss) → (xs : List A) × In xs xss × In x xs
  unfolding concat
  in_concat [] x h = elim h [ ]
  in_concat (xs ∷ xss) x h =
      ⊎_elim
      (λ (k : In x xs). (xs, inl refl, k))
      (λ (k : In x (concat xss)). let r = in_concat xss x k in (r.0, inr r.1, r.2))
      (in_append x xs (concat xss) h)

module _ {A B : Type 0} where
  pub map_in : (f : A → B) (xs : List A) (x : A) → In x xs → In (f x) (map f xs)
  map_in f [] x x3 = elim x3 [ ]
  map_in f (y ∷ xs) x (inl e) = inl (ap f e)
  map_in f (y ∷ xs) x (inr h) = inr (map_in f xs x h)

  pub in_map : (f : A → B) (xs : List A) (y : B) → In y (map f xs) → (x : A) × In x xs × (y ≡ f x)
  in_map f [] y x' = elim x' [ ]
  in_map f (x ∷ xs) y (inl e) = (x, inl refl, e)
  in_map f (x ∷ xs) y (inr h) = let r = in_map f xs y h in (r.0, inr r.1, r.2)

  pub concat_map_in : (f : A → List B) (xs : List A) (x : A) (y : B) → In x xs → In y (f x) → In y (concat_map f xs)
  unfolding concat_map
  concat_map_in f [] x y x4 h = elim x4 [ ]
  concat_map_in f (z ∷ xs) x y (inl e) h = in_left y (f z) (concat_map f xs) (subst (λ (w : A). In y (f w)) e h)
  concat_map_in f (z ∷ xs) x y (inr k) h = in_right y (f z) (concat_map f xs) (concat_map_in f xs x y k h)

  pub in_concat_map : (f : A → List B) (xs : List A) (y : B) → In y (concat_map f xs) → (x : A) × In x xs × In y (f x)
  unfolding concat_map
  in_concat_map f [] y h = elim h [ ]
  in_concat_map f (x ∷ xs) y h =
      ⊎_elim
      (λ (k : In y (f x)). (x, inl refl, k))
      (λ (k : In y (concat_map f xs)). let r = in_concat_map f xs y k in (r.0, inr r.1, r.2))
      (in_append y (f x) (concat_map f xs) h)

  pub concat_map_is : (f : A → List B) (xs : List A) → concat_map f xs ≡ concat (map f xs)
  unfolding concat_map concat
  concat_map_is f [] = refl
  concat_map_is f (x ∷ xs) = ap (λ (r : List B). f x ++ r) (concat_map_is f xs)

  -- ---- maps

  pub get_or_map : (f : A → B) (xs : List A) (i : ℕ) (d : A) (z : B) → i < length xs → get_or (map f xs) i z ≡ f (get_or xs i d)
  get_or_map f [] i d z h = absurd (omega arith)
  get_or_map f (x ∷ xs) zero d z h = refl
  get_or_map f (x ∷ xs) (suc i) d z h = get_or_map f xs i d z (omega arith)

  pub map_same : (f g : A → B) (xs : List A) → ((x : A) → In x xs → f x ≡ g x) → map f xs ≡ map g xs
  map_same f g [] h = refl
  map_same f g (x ∷ xs) h =
      let p = h x (inl refl) in
      let q = map_same f g xs (λ y i. h y (inr i)) in
      cc

  pub concat_map_same : (f g : A → List B) (xs : List A) → ((x : A) → In x xs → f x ≡ g x) → concat_map f xs ≡ concat_map g xs
  unfolding concat_map
  concat_map_same f g [] h = refl
  concat_map_same f g (x ∷ xs) h =
      let p = h x (inl refl) in
      let q = concat_map_same f g xs (λ y i. h y (inr i)) in
      cc

  pub map_within : (f : A → B) (xs ys : List A) → ((x : A) → In x xs → In x ys) → (z : B) → In z (map f xs) → In z (map f ys)
  map_within f xs ys h z i = let r = in_map f xs z i in subst (λ (w : B). In w (map f ys)) (sym r.2) (map_in f ys r.0 (h r.0 r.1))

-- ---- numbers in a row

pub in_up_from : (a n x : ℕ) → In x (up_from a n) → (a ≤ x) × (x < a + n)
unfolding up_from
in_up_from a zero x x3 = elim x3 [ ]
in_up_from a (suc n) x (inl e) = (omega arith, omega arith)
in_up_from a (suc n) x (inr h) = let r = in_up_from (suc a) n x h in (omega arith, omega arith)

pub up_from_in : (a n x : ℕ) → a ≤ x → x < a + n → In x (up_from a n)
unfolding up_from
up_from_in a zero x h k = absurd (omega arith)
up_from_in a (suc n) x h k = ⊎_elim (λ (e : a ≡ x). inl (sym e)) (λ (l : a < x). inr (up_from_in (suc a) n x l (omega arith))) (eq-or-lt_of_le h)

pub length_up_from : (a n : ℕ) → length (up_from a n) ≡ n
unfolding up_from
length_up_from a zero = refl
length_up_from a (suc n) = ap suc (length_up_from (suc a) n)

pub up_from_append : (a m k : ℕ) → up_from a (m + k) ≡ up_from a m ++ up_from (a + m) k
unfolding up_from
up_from_append a zero k = rw (zero-add k, add-zero a)
up_from_append a (suc m) k =
    let e : suc m + k ≡ suc (m + k) = omega arith in
    let f : suc a + m ≡ a + suc m = omega arith in
    ap (up_from a) e ∙ ap (λ (l : List ℕ). a ∷ l) (up_from_append (suc a) m k ∙ ap (λ (b : ℕ). up_from (suc a) m ++ up_from b k) f)

pub up_from_shift : (k a n : ℕ) → up_from (k + a) n ≡ map (λ (v : ℕ). k + v) (up_from a n)
unfolding up_from
up_from_shift k a zero = refl
up_from_shift k a (suc n) =
    let e : suc (k + a) ≡ k + suc a = omega arith in
    ap (λ (l : List ℕ). (k + a) ∷ l) (ap (λ (b : ℕ). up_from b n) e ∙ up_from_shift k (suc a) n)

module _ {A : Type 0} where
  -- f of each number in a row, at a place
  pub get_or_run : (f : ℕ → A) (z : A) (a n i : ℕ) → i < n → get_or (map f (up_from a n)) i z ≡ f (a + i)
  unfolding up_from
  get_or_run f z a zero i h = absurd (omega arith)
  get_or_run f z a (suc n) zero h = ap f (omega arith)
  get_or_run f z a (suc n) (suc i) h = get_or_run f z (suc a) n i (omega arith) ∙ ap f (omega arith)

  -- where f has one value
  pub run_same : (f : ℕ → A) (z : A) (a n : ℕ) → ((k : ℕ) → f k ≡ z) → map f (up_from a n) ≡ replicate n z
  unfolding up_from
  run_same f z a zero e = refl
  run_same f z a (suc n) e = ap (λ (x : A). x ∷ map f (up_from (suc a) n)) (e a) ∙ ap (λ (l : List A). z ∷ l) (run_same f z (suc a) n e)

pub get_or_up_from : (a n i d : ℕ) → i < n → get_or (up_from a n) i d ≡ a + i
unfolding up_from
get_or_up_from a zero i d h = absurd (omega arith)
get_or_up_from a (suc n) zero d h = omega arith
get_or_up_from a (suc n) (suc i) d h = get_or_up_from (suc a) n i d (omega arith) ∙ omega arith
