-- Laws of runs of stores (`lib.Seq.sets`), and what a loop that stores a list's elements one after the other keeps. At any element type.
-- Assumes nothing.
use mathlib.Core.Path.{◌≡◌, refl, sym, ap, ◌∙◌}
use mathlib.Core.Logic.{◌⊎◌, inl, inr}
use mathlib.Core.List.{List, [], ◌∷◌, ◌++◌, append_assoc, append-nil}
use Prim.Native.Nat.{ℕ, zero, suc, ◌+◌, ◌-◌, ◌≤◌, ◌<◌}
use native.Mathlib.Nat.{add-zero, zero-add}
use native.Mathlib.Numerals.{add-one}
use native.Mathlib.Omega.{arith}
use lib.ListN.{length, get_or, set, take, drop, replicate, length-set, length-drop, length-replicate, get_or-replicate, drop_of_length-le}
use lib.Seq.{take_all, take-suc, length-take-le, drop-drop, sets, sets-eq, get_or-set_same, get_or-set_other}
use Rattle.rules.specs.Lists.{overwritten}

module _ {A : Type 0} where
  -- ---- runs of stores

  -- one store behind a run
  pub sets_snoc : (l : List A) (i : ℕ) (vs : List A) (v : A) → sets l i (vs ++ (v ∷ [])) ≡ set (sets l i vs) (i + length vs) v
  sets_snoc l i [] v = rw (add-zero i)
  sets_snoc l i (x ∷ vs) v =
      let e : i + suc (length vs) ≡ suc i + length vs = omega arith in
      sets_snoc (set l i x) (suc i) vs v ∙ ap (λ (j : ℕ). set (sets (set l i x) (suc i) vs) j v) (sym e)

  -- one run behind another
  pub sets_append : (l : List A) (i : ℕ) (us vs : List A) → sets l i (us ++ vs) ≡ sets (sets l i us) (i + length us) vs
  sets_append l i [] vs = rw (add-zero i)
  sets_append l i (u ∷ us) vs =
      let e : i + suc (length us) ≡ suc i + length us = omega arith in
      sets_append (set l i u) (suc i) us vs ∙ ap (λ (j : ℕ). sets (sets (set l i u) (suc i) us) j vs) (sym e)

  -- stores from i on leave the other elements
  pub sets_other : (l : List A) (i : ℕ) (vs : List A) (j : ℕ) (d : A) → (j < i) ⊎ (i + length vs ≤ j) → get_or (sets l i vs) j d ≡ get_or l j d
  sets_other l i [] j d h = refl
  sets_other l i (v ∷ vs) j d (inl h) =
      sets_other (set l i v) (suc i) vs j d (inl (omega arith)) ∙ get_or-set_other l i j v d (λ p. absurd (omega arith))
  sets_other l i (v ∷ vs) j d (inr h) =
      sets_other (set l i v) (suc i) vs j d (inr (omega arith)) ∙ get_or-set_other l i j v d (λ p. absurd (omega arith))

  -- and are read back
  pub get_or_sets : (l : List A) (i : ℕ) (vs : List A) (j : ℕ) (d : A) → j < length vs → i + length vs ≤ length l → get_or (sets l i vs) (i + j) d ≡ get_or vs j d
  get_or_sets l i [] j d h u = absurd (omega arith)
  get_or_sets l i (v ∷ vs) zero d h u =
      rw (add-zero i) (sets_other (set l i v) (suc i) vs i d (inl (omega arith)) ∙ get_or-set_same l i v d (omega arith))
  get_or_sets l i (v ∷ vs) (suc j) d h u =
      let e : i + suc j ≡ suc i + j = omega arith in
      ap (λ (q : ℕ). get_or (sets (set l i v) (suc i) vs) q d) e ∙ get_or_sets (set l i v) (suc i) vs j d (omega arith) (rw length-set (omega arith))

  -- from the front on
  pub sets_front : (l vs : List A) → length vs ≤ length l → sets l 0 vs ≡ overwritten l vs
  unfolding overwritten
  sets_front l vs h = sets-eq vs l 0 (omega arith) ∙ ap (λ (k : ℕ). vs ++ drop k l) (zero-add (length vs))

  -- over a whole list
  pub sets_whole : (l vs : List A) → length vs ≡ length l → sets l 0 vs ≡ vs
  unfolding overwritten
  sets_whole l vs e =
      let u : length l ≤ length vs = omega arith in
      sets_front l vs (omega arith) ∙ ap (λ (r : List A). vs ++ r) (drop_of_length-le l u) ∙ append-nil vs

  -- a list whose rest, from a on, was lent and came back with vs at its front
  pub sets_rest : (a : ℕ) (l vs : List A) → a + length vs ≤ length l → take a l ++ (overwritten (take (length l - a) (drop a l)) vs ++ drop (length l - a) (drop a l)) ≡ sets l a vs
  unfolding overwritten
  sets_rest a l vs h =
      let n = length-drop a l in
      let u : length (drop a l) ≤ length l - a = omega arith in
      let p : take (length l - a) (drop a l) ≡ drop a l = take_all (length l - a) (drop a l) u in
      let q : drop (length l - a) (drop a l) ≡ [] = drop_of_length-le (drop a l) u in
      rw (p, q, append-nil (vs ++ drop (length vs) (drop a l)), drop-drop (length vs) a l)
      (sym (append_assoc (take a l) vs (drop (a + length vs) l)) ∙ sym (sets-eq vs l a h))

  -- ---- a loop

  -- after i turns of a loop that stores s over d, from `at` on, the list is w
  pub record Storing (at : ℕ) (s d w : List A) (i : ℕ) : Type 0 where
    pub below : i ≤ length s
    pub is : w ≡ sets d at (take i s)
    pub long : length w ≡ length d

  pub store_start : (at : ℕ) (s d : List A) → Storing at s d d 0
  store_start at s d = record { below = omega arith; is = refl; long = refl }

  -- The store writes y, the element read: a signed one is stored by its bits, and `to_z-of_z` says that this is the same.
  pub store_turn : (z : A) {at : ℕ} {s d w : List A} {i : ℕ} {y : A} → y ≡ get_or s i z → Storing at s d w i → i < length s → Storing at s d (set w (at + i) y) (i + 1)
  store_turn z {at} {s} {d} {w} {i} {y} e p h = record {
    below = omega arith;
    is =
        rw (add-one, e, p.is, take-suc s i z h)
        (ap (λ (k : ℕ). set (sets d at (take i s)) (at + k) (get_or s i z)) (sym (length-take-le i s (omega arith)))
        ∙ sym (sets_snoc d at (take i s) (get_or s i z)));
    long = length-set w (at + i) y ∙ p.long;
  }

  pub store_end : {at : ℕ} {s d w : List A} {i : ℕ} → Storing at s d w i → length s ≤ i → w ≡ sets d at s
  store_end {at} {s} {d} p h = p.is ∙ ap (sets d at) (take_all _ s h)

  -- the same from the front on: the code's place is i, not 0 + i
  pub front_turn : (z : A) {s d w : List A} {i : ℕ} {y : A} → y ≡ get_or s i z → Storing 0 s d w i → i < length s → Storing 0 s d (set w i y) (i + 1)
  front_turn z {s} {d} {w} {i} {y} e p h = rw (zero-add i) at (store_turn z e p h)

  -- clearing: v is stored over all of d
  abbrev pub Clearing : A → List A → List A → ℕ → Type 0
  Clearing v d w i = Storing 0 (replicate (length d) v) d w i

  pub clear_turn : (v : A) (d : List A) {w : List A} {i : ℕ} → Clearing v d w i → i < length w → Clearing v d (set w i v) (i + 1)
  clear_turn v d {w} {i} p h =
      let l : i < length d = omega (arith, p.long) in
      front_turn v (rw (get_or-replicate (length d) i v v)) p (omega (arith, length-replicate (length d) v))

  pub clear_end : (v : A) (d : List A) {w : List A} {i : ℕ} → Clearing v d w i → length w ≤ i → w ≡ replicate (length d) v
  clear_end v d p h =
      let n = length-replicate (length d) v in
      store_end p (omega (arith, p.long)) ∙ sets_whole d (replicate (length d) v) n
