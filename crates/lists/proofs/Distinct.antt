-- The distinct keys of a list, in the order first met, and the place of a key in it. Assumes nothing.
use mathlib.Core.Path.{◌≡◌, refl, sym, ap, ◌∙◌, subst}
use mathlib.Core.Bool.{Bool, true, false, cond}
use mathlib.Core.Logic.{◌⊎◌, inl, inr, ⊎_elim}
use mathlib.Core.List.{List, [], ◌∷◌, ◌++◌, append_assoc, append-nil}
use Prim.Native.Nat.{ℕ, zero, suc, ◌+◌, ◌≤◌, ◌<◌, zero-le, suc-le-suc}
use native.Mathlib.Nat.{zero-add}
use native.Mathlib.Omega.{arith}
use lib.ListN.{length, get_or, length-append, get_or-append}
use Rattle.rules.specs.Lists.{Key, same, index_of, meet, meet_all, distinct}
use Rattle.lists.specs.Membership.{In, Once}
use Rattle.lists.proofs.Membership.{in_append, get_or_in}
use Rattle.lists.proofs.Keys.{same_refl, same_eq, eq_same, ne_same, same_ne}

-- ---- the place of a key

pub at_index : (k : Key) (xs : List Key) → In k xs → get_or xs (index_of k xs) [] ≡ k
unfolding index_of
at_index k [] x' = elim x' [ ]
at_index k (x ∷ xs) (inl e) = let s = eq_same k x e in rw s (sym e)
at_index k (x ∷ xs) (inr h) = go (same k x) refl (at_index k xs h)
  where
    go : (b : Bool) → same k x ≡ b → get_or xs (index_of k xs) [] ≡ k → get_or (x ∷ xs) (cond b zero (suc (index_of k xs))) [] ≡ k
    go true e ih = sym (same_eq k x e)
    go false e ih = ih

pub index_below : (k : Key) (xs : List Key) → In k xs → index_of k xs < length xs
unfolding index_of
index_below k [] x' = elim x' [ ]
index_below k (x ∷ xs) (inl e) = let s = eq_same k x e in rw s (suc-le-suc zero-le)
index_below k (x ∷ xs) (inr h) = go (same k x) (index_below k xs h)
  where
    go : (b : Bool) → index_of k xs < length xs → cond b zero (suc (index_of k xs)) < suc (length xs)
    go true ih = suc-le-suc zero-le
    go false ih = suc-le-suc ih

-- a key that is not in the list has the list's length for its place
pub index_absent : (k : Key) (xs : List Key) → (In k xs → ⊥) → index_of k xs ≡ length xs
unfolding index_of
index_absent k [] h = refl
index_absent k (x ∷ xs) h =
    let s : same k x ≡ false = ne_same k x (λ e. h (inl e)) in
    rw s (ap suc (index_absent k xs (λ i. h (inr i))))

-- so the place says whether the key is in the list
pub index_in : (k : Key) (xs : List Key) → index_of k xs < length xs → In k xs
unfolding index_of
index_in k [] l = absurd (omega arith)
index_in k (x ∷ xs) l = go (same k x) refl l (index_in k xs)
  where
    go : (b : Bool) → same k x ≡ b → cond b zero (suc (index_of k xs)) < suc (length xs) → (index_of k xs < length xs → In k xs) → In k (x ∷ xs)
    go true e m f = inl (same_eq k x e)
    go false e m f = inr (f (omega arith))

-- element e of a list without repeats has the place e
pub index_at : (xs : List Key) → Once xs → (e : ℕ) → e < length xs → index_of (get_or xs e []) xs ≡ e
unfolding index_of
index_at [] h e l = absurd (omega arith)
index_at (x ∷ xs) h zero l = rw (same_refl x)
index_at (x ∷ xs) h (suc e) l = go (same (get_or xs e []) x) refl (index_at xs h.1 e (omega arith))
  where
    go : (b : Bool) → same (get_or xs e []) x ≡ b → index_of (get_or xs e []) xs ≡ e → cond b zero (suc (index_of (get_or xs e []) xs)) ≡ suc e
    go true p ih = absurd (h.0 (subst (λ (z : Key). In z xs) (same_eq (get_or xs e []) x p) (get_or_in xs e [] (omega arith))))
    go false p ih = ap suc ih

-- a key that stands at e and nowhere before has the place e
pub index_first : (k : Key) (xs : List Key) (e : ℕ) → e < length xs → get_or xs e [] ≡ k → ((d : ℕ) → d < e → get_or xs d [] ≡ k → ⊥) → index_of k xs ≡ e
unfolding index_of
index_first k [] e l p h = absurd (omega arith)
index_first k (x ∷ xs) zero l p h = let s = eq_same k x (sym p) in rw s
index_first k (x ∷ xs) (suc e) l p h =
    let s = ne_same k x (λ q. h 0 (suc-le-suc zero-le) (sym q)) in
    rw s (ap suc (index_first k xs e (omega arith) p (λ d m. h (suc d) (suc-le-suc m))))

-- ---- two lists, one behind the other

pub index_left : (k : Key) (xs ys : List Key) → In k xs → index_of k (xs ++ ys) ≡ index_of k xs
unfolding index_of
index_left k [] ys x' = elim x' [ ]
index_left k (x ∷ xs) ys (inl e) = let s = eq_same k x e in rw s
index_left k (x ∷ xs) ys (inr i) = ap (λ (n : ℕ). cond (same k x) zero (suc n)) (index_left k xs ys i)

pub index_right : (k : Key) (xs ys : List Key) → (In k xs → ⊥) → index_of k (xs ++ ys) ≡ length xs + index_of k ys
unfolding index_of
index_right k [] ys h = sym (zero-add (index_of k ys))
index_right k (x ∷ xs) ys h =
    let s : same k x ≡ false = ne_same k x (λ e. h (inl e)) in
    let r = index_right k xs ys (λ i. h (inr i)) in
    rw s (omega arith)

-- ---- a key is met

pub meet_known : (k : Key) (xs : List Key) → In k xs → meet xs k ≡ xs
unfolding meet
meet_known k [] x' = elim x' [ ]
meet_known k (x ∷ xs) (inl e) = let s = eq_same k x e in rw s
meet_known k (x ∷ xs) (inr i) = go (same k x) (meet_known k xs i)
  where
    go : (b : Bool) → meet xs k ≡ xs → cond b (x ∷ xs) (x ∷ meet xs k) ≡ x ∷ xs
    go true ih = refl
    go false ih = ap (λ (l : List Key). x ∷ l) ih

pub meet_absent : (k : Key) (xs : List Key) → (In k xs → ⊥) → meet xs k ≡ xs ++ (k ∷ [])
unfolding meet
meet_absent k [] h = refl
meet_absent k (x ∷ xs) h =
    let s : same k x ≡ false = ne_same k x (λ e. h (inl e)) in
    rw s (ap (λ (l : List Key). x ∷ l) (meet_absent k xs (λ i. h (inr i))))

-- the list only grows, at its end
pub meet_more : (k : Key) (xs : List Key) → (ys : List Key) × (meet xs k ≡ xs ++ ys)
unfolding meet
meet_more k [] = (k ∷ [], refl)
meet_more k (x ∷ xs) = go (same k x) (meet_more k xs)
  where
    go : (b : Bool) → (ys : List Key) × (meet xs k ≡ xs ++ ys) → (ys : List Key) × (cond b (x ∷ xs) (x ∷ meet xs k) ≡ x ∷ (xs ++ ys))
    go true ih = ([], sym (append-nil (x ∷ xs)))
    go false ih = (ih.0, ap (λ (l : List Key). x ∷ l) ih.1)

in_meet : (k x : Key) (xs : List Key) → In x (meet xs k) → In x xs ⊎ (x ≡ k)
unfolding meet
in_meet k x [] (inr x3) = elim x3 [ ]
in_meet k x [] (inl e) = inr e
in_meet k x (y ∷ ys) h = go (same k y) h (in_meet k x ys)
  where
    go : (b : Bool) → In x (cond b (y ∷ ys) (y ∷ meet ys k)) → (In x (meet ys k) → In x ys ⊎ (x ≡ k)) → In x (y ∷ ys) ⊎ (x ≡ k)
    go true i ih = inl i
    go false (inl e) ih = inl (inl e)
    go false (inr i) ih = ⊎_elim (λ (j : In x ys). inl (inr j)) (λ (e : x ≡ k). inr e) (ih i)

meet_in : (k x : Key) (xs : List Key) → In x xs ⊎ (x ≡ k) → In x (meet xs k)
unfolding meet
meet_in k x [] (inl x3) = elim x3 [ ]
meet_in k x [] (inr e) = inl e
meet_in k x (y ∷ ys) h = go (same k y) refl h (meet_in k x ys)
  where
    go : (b : Bool) → same k y ≡ b → In x (y ∷ ys) ⊎ (x ≡ k) → (In x ys ⊎ (x ≡ k) → In x (meet ys k)) → In x (cond b (y ∷ ys) (y ∷ meet ys k))
    go true e (inl i) ih = i
    go true e (inr i) ih = inl (i ∙ same_eq k y e)
    go false e (inl (inl i)) ih = inl i
    go false e (inl (inr i)) ih = inr (ih (inl i))
    go false e (inr i) ih = inr (ih (inr i))

once_meet : (k : Key) (xs : List Key) → Once xs → Once (meet xs k)
unfolding meet
once_meet k [] h = ((λ i. i), tt)
once_meet k (y ∷ ys) h = go (same k y) refl (once_meet k ys h.1)
  where
    go : (b : Bool) → same k y ≡ b → Once (meet ys k) → Once (cond b (y ∷ ys) (y ∷ meet ys k))
    go true e ih = h
    go false e ih = ((λ i. ⊎_elim h.0 (λ (p : y ≡ k). same_ne k y e (sym p)) (in_meet k y ys i)), ih)

-- ---- keys are met one after the other

in_meet_all : (known ks : List Key) (x : Key) → In x (meet_all known ks) → In x known ⊎ In x ks
unfolding meet_all
in_meet_all known [] x h = inl h
in_meet_all known (k ∷ ks) x h =
    ⊎_elim
    (λ (i : In x (meet known k)). ⊎_elim inl (λ (e : x ≡ k). inr (inl e)) (in_meet k x known i))
    (λ (i : In x ks). inr (inr i))
    (in_meet_all (meet known k) ks x h)

meet_all_in : (known ks : List Key) (x : Key) → In x known ⊎ In x ks → In x (meet_all known ks)
unfolding meet_all
meet_all_in known [] x (inr x4) = elim x4 [ ]
meet_all_in known [] x (inl h) = h
meet_all_in known (k ∷ ks) x (inl h) = meet_all_in (meet known k) ks x (inl (meet_in k x known (inl h)))
meet_all_in known (k ∷ ks) x (inr (inl e)) = meet_all_in (meet known k) ks x (inl (meet_in k x known (inr e)))
meet_all_in known (k ∷ ks) x (inr (inr h)) = meet_all_in (meet known k) ks x (inr h)

once_meet_all : (known ks : List Key) → Once known → Once (meet_all known ks)
unfolding meet_all
once_meet_all known [] h = h
once_meet_all known (k ∷ ks) h = once_meet_all (meet known k) ks (once_meet k known h)

pub meet_all_append : (known xs ys : List Key) → meet_all known (xs ++ ys) ≡ meet_all (meet_all known xs) ys
unfolding meet_all
meet_all_append known [] ys = refl
meet_all_append known (x ∷ xs) ys = meet_all_append (meet known x) xs ys

pub meet_all_more : (known ks : List Key) → (ys : List Key) × (meet_all known ks ≡ known ++ ys)
unfolding meet_all
meet_all_more known [] = ([], sym (append-nil known))
meet_all_more known (k ∷ ks) =
    let a = meet_more k known in
    let b = meet_all_more (meet known k) ks in
    (a.0 ++ b.0, b.1 ∙ ap (λ (l : List Key). l ++ b.0) a.1 ∙ append_assoc known a.0 b.0)

-- ---- the distinct keys

pub in_distinct : (ks : List Key) (x : Key) → In x (distinct ks) → In x ks
unfolding distinct
in_distinct ks x h = ⊎_elim absurd (λ (i : In x ks). i) (in_meet_all [] ks x h)

pub distinct_in : (ks : List Key) (x : Key) → In x ks → In x (distinct ks)
unfolding distinct
distinct_in ks x h = meet_all_in [] ks x (inr h)

pub once_distinct : (ks : List Key) → Once (distinct ks)
unfolding distinct
once_distinct ks = once_meet_all [] ks tt

pub distinct_append : (xs ys : List Key) → distinct (xs ++ ys) ≡ meet_all (distinct xs) ys
unfolding distinct
distinct_append xs ys = meet_all_append [] xs ys

-- one key more is met: a loop's turn
pub distinct_turn : (ks : List Key) (k : Key) → distinct (ks ++ (k ∷ [])) ≡ meet (distinct ks) k
unfolding meet_all
distinct_turn ks k = distinct_append ks (k ∷ [])

-- the keys met first keep their places when more are met
pub distinct_prefix : (xs ys : List Key) → (zs : List Key) × (distinct (xs ++ ys) ≡ distinct xs ++ zs)
distinct_prefix xs ys = let r = meet_all_more (distinct xs) ys in (r.0, distinct_append xs ys ∙ r.1)

pub index_stays : (xs ys : List Key) (k : Key) → In k (distinct xs) → index_of k (distinct (xs ++ ys)) ≡ index_of k (distinct xs)
index_stays xs ys k i =
    let r = distinct_prefix xs ys in
    ap (index_of k) r.1 ∙ index_left k (distinct xs) r.0 i

pub get_or_stays : (xs ys : List Key) (e : ℕ) → e < length (distinct xs) → get_or (distinct (xs ++ ys)) e [] ≡ get_or (distinct xs) e []
get_or_stays xs ys e l =
    let r = distinct_prefix xs ys in
    ap (λ (l : List Key). get_or l e []) r.1 ∙ get_or-append (distinct xs) r.0 [] e l

pub length_distinct : (xs ys : List Key) → length (distinct xs) ≤ length (distinct (xs ++ ys))
length_distinct xs ys =
    let r = distinct_prefix xs ys in
    omega (arith, ap length r.1 ∙ length-append (distinct xs) r.0)

-- there are no more distinct keys than keys
meet_length : (known : List Key) (k : Key) → length (meet known k) ≤ suc (length known)
unfolding meet
meet_length [] k = omega arith
meet_length (x ∷ known) k = go (same k x) (meet_length known k)
  where
    go : (b : Bool) → length (meet known k) ≤ suc (length known) → length (cond b (x ∷ known) (x ∷ meet known k)) ≤ suc (length (x ∷ known))
    go true h = omega arith
    go false h = omega arith

meet_all_length : (known ks : List Key) → length (meet_all known ks) ≤ length known + length ks
unfolding meet_all
meet_all_length known [] = omega arith
meet_all_length known (k ∷ ks) = omega (arith, meet_all_length (meet known k) ks, meet_length known k)

pub distinct_length : (ks : List Key) → length (distinct ks) ≤ length ks
unfolding distinct
distinct_length ks = omega (arith, meet_all_length [] ks)

-- ---- a list without repeats is its own list of distinct keys

meet_all_absent : (known ks : List Key) → Once ks → ((k : Key) → In k ks → In k known → ⊥) → meet_all known ks ≡ known ++ ks
unfolding meet_all
meet_all_absent known [] o h = sym (append-nil known)
meet_all_absent known (k ∷ ks) o h =
    ap (λ (l : List Key). meet_all l ks) (meet_absent k known (h k (inl refl)))
    ∙ meet_all_absent (known ++ (k ∷ [])) ks o.1
    (λ j i n. ⊎_elim (h j (inr i)) (λ (e : In j (k ∷ [])). ⊎_elim (λ (p : j ≡ k). o.0 (subst (λ (z : Key). In z ks) p i)) absurd e)
    (in_append j known (k ∷ []) n))
    ∙ append_assoc known (k ∷ []) ks

pub distinct_once : (ks : List Key) → Once ks → distinct ks ≡ ks
unfolding distinct
distinct_once ks o = meet_all_absent [] ks o (λ k i n. n)
