-- Keys: equality as a test; a key is decided by the members of a list without repeats. Assumes nothing.
use mathlib.Core.Path.{◌≡◌, refl, sym, ap, ◌∙◌, subst}
use mathlib.Core.Bool.{Bool, true, false, cond}
use mathlib.Core.Logic.{◌⊎◌, inl, inr, ⊎_elim}
use mathlib.Core.List.{List, [], ◌∷◌}
use Prim.Native.Nat.{ℕ, suc, ◌<◌}
use native.Mathlib.Omega.{arith}
use lib.ListN.{length}
use lib.Dec.{eqb, leb}
use borrow.Author.Tests.{eqb-true, eq-eqb, leb-true, leb-false}
use Rattle.rules.specs.Lists.{any, repeats, Key, insert, key_of, same}
use Rattle.lists.specs.Membership.{In, Once}
use Rattle.lists.proofs.Tests.{false≢true, is_false, and_both, any_in, in_any, repeats_once, once_repeats}

-- ---- equality of keys as a test

pub same_refl : (k : Key) → same k k ≡ true
unfolding same
same_refl [] = refl
same_refl (x ∷ xs) = rw (eq-eqb x x refl) (same_refl xs)

pub same_eq : (j k : Key) → same j k ≡ true → j ≡ k
unfolding same
same_eq [] [] h = refl
same_eq [] (y ∷ ys) h = absurd (false≢true h)
same_eq (x ∷ xs) [] h = absurd (false≢true h)
same_eq (x ∷ xs) (y ∷ ys) h =
    let b = and_both (eqb x y) (same xs ys) h in
    let p : x ≡ y = eqb-true x y b.0 in
    let q : xs ≡ ys = same_eq xs ys b.1 in
    cc

pub eq_same : (j k : Key) → j ≡ k → same j k ≡ true
eq_same j k e = rw e (same_refl k)

pub ne_same : (j k : Key) → (j ≡ k → ⊥) → same j k ≡ false
ne_same j k h = is_false (same j k) (λ e. h (same_eq j k e))

pub same_ne : (j k : Key) → same j k ≡ false → j ≡ k → ⊥
same_ne j k h e = false≢true (sym h ∙ eq_same j k e)

pub any_key : (k : Key) (ks : List Key) → any (same k) ks ≡ true → In k ks
any_key k ks h = let r = any_in (same k) ks h in subst (λ (z : Key). In z ks) (sym (same_eq k r.0 r.2)) r.1

pub key_any : (k : Key) (ks : List Key) → In k ks → any (same k) ks ≡ true
key_any k ks i = in_any (same k) ks k i (same_refl k)

pub repeats_once_keys : (ks : List Key) → repeats same ks ≡ false → Once ks
repeats_once_keys ks h = repeats_once same same_refl ks h

pub once_repeats_keys : (ks : List Key) → Once ks → repeats same ks ≡ false
once_repeats_keys ks h = once_repeats same same_eq ks h

-- ---- the members of a key

in_insert : (x z : ℕ) (ys : List ℕ) → In z (insert x ys) → (z ≡ x) ⊎ In z ys
unfolding insert
in_insert x z [] (inr x3) = elim x3 [ ]
in_insert x z [] (inl e) = inl e
in_insert x z (y ∷ ys) h = go (leb x y) h (in_insert x z ys)
  where
    go : (b : Bool) → In z (cond b (x ∷ y ∷ ys) (y ∷ insert x ys)) → (In z (insert x ys) → (z ≡ x) ⊎ In z ys) → (z ≡ x) ⊎ In z (y ∷ ys)
    go true k ih = k
    go false (inl e) ih = inr (inl e)
    go false (inr k) ih = ⊎_elim inl (λ (i : In z ys). inr (inr i)) (ih k)

insert_in : (x z : ℕ) (ys : List ℕ) → (z ≡ x) ⊎ In z ys → In z (insert x ys)
unfolding insert
insert_in x z [] h = h
insert_in x z (y ∷ ys) h = go (leb x y) h (insert_in x z ys)
  where
    go : (b : Bool) → (z ≡ x) ⊎ In z (y ∷ ys) → ((z ≡ x) ⊎ In z ys → In z (insert x ys)) → In z (cond b (x ∷ y ∷ ys) (y ∷ insert x ys))
    go true k ih = k
    go false (inl e) ih = inr (ih (inl e))
    go false (inr (inl e)) ih = inl e
    go false (inr (inr i)) ih = inr (ih (inr i))

length_insert : (x : ℕ) (ys : List ℕ) → length (insert x ys) ≡ suc (length ys)
unfolding insert
length_insert x [] = refl
length_insert x (y ∷ ys) = go (leb x y) (length_insert x ys)
  where
    go : (b : Bool) → length (insert x ys) ≡ suc (length ys) → length (cond b (x ∷ y ∷ ys) (y ∷ insert x ys)) ≡ suc (suc (length ys))
    go true ih = refl
    go false ih = ap suc ih

pub in_key : (xs : List ℕ) (z : ℕ) → In z (key_of xs) → In z xs
unfolding key_of
in_key [] z h = h
in_key (x ∷ xs) z h = ⊎_elim inl (λ (i : In z (key_of xs)). inr (in_key xs z i)) (in_insert x z (key_of xs) h)

pub key_in : (xs : List ℕ) (z : ℕ) → In z xs → In z (key_of xs)
unfolding key_of
key_in [] z x' = elim x' [ ]
key_in (x ∷ xs) z (inl e) = insert_in x z (key_of xs) (inl e)
key_in (x ∷ xs) z (inr h) = insert_in x z (key_of xs) (inr (key_in xs z h))

pub length_key : (xs : List ℕ) → length (key_of xs) ≡ length xs
unfolding key_of
length_key [] = refl
length_key (x ∷ xs) = length_insert x (key_of xs) ∙ ap suc (length_key xs)

-- lists with one key have the same members
pub same_members : (xs ys : List ℕ) → key_of xs ≡ key_of ys → (z : ℕ) → In z xs → In z ys
same_members xs ys e z h = in_key ys z (subst (λ (k : Key). In z k) e (key_in xs z h))

-- ---- and lists without repeats that have the same members have one key

-- each number is below those behind it
abbrev pub Rising : List ℕ → Type 0
Rising [] = Unit {0}
Rising (x ∷ xs) = ((y : ℕ) → In y xs → x < y) × Rising xs

insert_rises : (x : ℕ) (ys : List ℕ) → (In x ys → ⊥) → Rising ys → Rising (insert x ys)
unfolding insert
insert_rises x [] h r = ((λ y i. absurd i), tt)
insert_rises x (y ∷ ys) h r = go (leb x y) refl (insert_rises x ys (λ i. h (inr i)) r.1)
  where
    ne : x ≡ y → ⊥
    ne e = h (inl e)

    go : (b : Bool) → leb x y ≡ b → Rising (insert x ys) → Rising (cond b (x ∷ y ∷ ys) (y ∷ insert x ys))
    go true e ih =
        let l : x < y = omega (arith, leb-true x y e, ne) in
        ((λ z i. ⊎_elim (λ (k : z ≡ y). omega arith) (λ (k : In z ys). omega (arith, r.0 z k)) i), r)
    go false e ih =
        let l : y < x = leb-false x y e in
        ((λ z i. ⊎_elim (λ (k : z ≡ x). omega arith) (λ (k : In z ys). r.0 z k) (in_insert x z ys i)), ih)

pub key_rises : (xs : List ℕ) → Once xs → Rising (key_of xs)
unfolding key_of
key_rises [] h = tt
key_rises (x ∷ xs) h = insert_rises x (key_of xs) (λ i. h.0 (in_key xs x i)) (key_rises xs h.1)

pub rising_ext : (xs ys : List ℕ) → Rising xs → Rising ys → ((z : ℕ) → In z xs → In z ys) → ((z : ℕ) → In z ys → In z xs) → xs ≡ ys
rising_ext [] [] r q s t = refl
rising_ext [] (y ∷ ys) r q s t = absurd (t y (inl refl))
rising_ext (x ∷ xs) [] r q s t = absurd (s x (inl refl))
rising_ext (x ∷ xs) (y ∷ ys) r q s t =
    let e : x ≡ y =
    ⊎_elim (λ (k : x ≡ y). k)
    (λ (i : In x ys). ⊎_elim (λ (k : y ≡ x). sym k) (λ (j : In y xs). absurd (omega (arith, q.0 x i, r.0 y j))) (t y (inl refl)))
    (s x (inl refl)) in
    let f : xs ≡ ys =
    rising_ext xs ys r.1 q.1
    (λ z i. ⊎_elim (λ (k : z ≡ y). absurd (omega (arith, r.0 z i))) (λ (j : In z ys). j) (s z (inr i)))
    (λ z i. ⊎_elim (λ (k : z ≡ x). absurd (omega (arith, q.0 z i))) (λ (j : In z xs). j) (t z (inr i))) in
    cc

pub key_ext : (xs ys : List ℕ) → Once xs → Once ys → ((z : ℕ) → In z xs → In z ys) → ((z : ℕ) → In z ys → In z xs) → key_of xs ≡ key_of ys
key_ext xs ys h k s t =
    rising_ext (key_of xs) (key_of ys) (key_rises xs h) (key_rises ys k)
    (λ z i. key_in ys z (s z (in_key xs z i)))
    (λ z i. key_in xs z (t z (in_key ys z i)))

pub once_rising : (xs : List ℕ) → Rising xs → Once xs
once_rising [] h = tt
once_rising (x ∷ xs) h = ((λ i. omega (arith, h.0 x i)), once_rising xs h.1)

-- a rising list is its own key
pub key_rising : (xs : List ℕ) → Rising xs → key_of xs ≡ xs
key_rising xs h =
    rising_ext (key_of xs) xs (key_rises xs (once_rising xs h)) h
    (λ z i. in_key xs z i)
    (λ z i. key_in xs z i)

-- the key of two numbers does not depend on their order
pub key_swap : (a b : ℕ) → key_of (a ∷ b ∷ []) ≡ key_of (b ∷ a ∷ [])
unfolding key_of insert
key_swap a b = go (leb a b) refl (leb b a) refl
  where
    go : (v : Bool) → leb a b ≡ v → (u : Bool) → leb b a ≡ u → cond (leb a b) (a ∷ b ∷ []) (b ∷ a ∷ []) ≡ cond (leb b a) (b ∷ a ∷ []) (a ∷ b ∷ [])
    go true p true q = let e : a ≡ b = omega (arith, leb-true a b p, leb-true b a q) in rw (p, q) (cc)
    go true p false q = rw (p, q)
    go false p true q = rw (p, q)
    go false p false q = absurd (omega (arith, leb-false a b p, leb-false b a q))
