-- Flat tables and their entries: cut and concat undo each other; what stands where. Assumes nothing.
use mathlib.Core.Path.{◌≡◌, refl, sym, ap, ◌∙◌}
use mathlib.Core.Bool.{Bool}
use mathlib.Core.Logic.{inl, inr}
use mathlib.Core.List.{List, [], ◌∷◌, ◌++◌}
use Prim.Native.Nat.{ℕ, zero, suc, ◌+◌, ◌*◌, ◌/◌, ◌%◌, ◌≤◌, ◌<◌}
use native.Mathlib.Nat.{mul-div-le, mul-div_cancel_left, div-add-mod'}
use native.Mathlib.Omega.{arith}
use lib.ListN.{length, get_or, take, drop, length-append, length-drop, take-append-drop}
use lib.Seq.{length-take-le, take_at, drop_at, drop-drop, get_or-take, get_or-drop}
use Rattle.rules.specs.Lists.{any, concat, entries, cut}
use Rattle.lists.specs.Membership.{In}
use Rattle.lists.proofs.Tests.{any_concat}

module _ {A : Type 0} where
  -- ---- how many entries, how long

  pub length_entries : (k n : ℕ) (xs : List A) → length (entries k n xs) ≡ n
  unfolding entries
  length_entries k zero xs = refl
  length_entries k (suc n) xs = ap suc (length_entries k n (drop k xs))

  pub length_cut : (k : ℕ) (xs : List A) → length (cut k xs) ≡ length xs / k
  unfolding cut
  length_cut k xs = length_entries k (length xs / k) xs

  entry_length : (k n : ℕ) (xs : List A) → n * k ≤ length xs → (c : List A) → In c (entries k n xs) → length c ≡ k
  unfolding entries
  entry_length k zero xs h c x'' = elim x'' [ ]
  entry_length k (suc n) xs h c (inl e) = ap length e ∙ length-take-le k xs (omega arith)
  entry_length k (suc n) xs h c (inr i) = entry_length k n (drop k xs) (omega (arith, length-drop k xs)) c i

  pub length_entry : (k : ℕ) (xs : List A) (c : List A) → In c (cut k xs) → length c ≡ k
  unfolding cut
  length_entry k xs c i = entry_length k (length xs / k) xs (omega (arith, mul-div-le (length xs) k)) c i

  pub length_concat : (k : ℕ) (cs : List (List A)) → ((c : List A) → In c cs → length c ≡ k) → length (concat cs) ≡ k * length cs
  unfolding concat
  length_concat k [] h = omega arith
  length_concat k (c ∷ cs) h = length-append c (concat cs) ∙ omega (arith, h c (inl refl), length_concat k cs (λ d i. h d (inr i)))

  -- ---- there and back

  entries_concat : (k : ℕ) (cs : List (List A)) → ((c : List A) → In c cs → length c ≡ k) → entries k (length cs) (concat cs) ≡ cs
  unfolding entries concat
  entries_concat k [] h = refl
  entries_concat k (c ∷ cs) h =
      let p = take_at c (concat cs) k (h c (inl refl)) in
      let q = drop_at c (concat cs) k (h c (inl refl)) in
      let r = entries_concat k cs (λ d i. h d (inr i)) in
      rw (p, q, r)

  -- the flat table of entries of one length has those entries
  pub cut_concat : (k : ℕ) (cs : List (List A)) → 0 < k → ((c : List A) → In c cs → length c ≡ k) → cut k (concat cs) ≡ cs
  unfolding cut
  cut_concat k cs l h =
      let e : length (concat cs) / k ≡ length cs = ap (λ (n : ℕ). n / k) (length_concat k cs h) ∙ mul-div_cancel_left (length cs) l in
      ap (λ (n : ℕ). entries k n (concat cs)) e ∙ entries_concat k cs h

  concat_entries : (k n : ℕ) (xs : List A) → length xs ≡ n * k → concat (entries k n xs) ≡ xs
  unfolding entries concat
  concat_entries k zero [] h = refl
  concat_entries k zero (x ∷ xs) h = absurd (omega arith)
  concat_entries k (suc n) xs h =
      ap (λ (r : List A). take k xs ++ r) (concat_entries k n (drop k xs) (length-drop k xs ∙ omega arith)) ∙ take-append-drop k xs

  -- a table of whole entries is its entries, joined
  pub concat_cut : (k : ℕ) (xs : List A) → length xs % k ≡ 0 → concat (cut k xs) ≡ xs
  unfolding cut
  concat_cut k xs h = concat_entries k (length xs / k) xs (omega (arith, div-add-mod' (length xs) k))

  -- ---- at a place

  entries_at : (k n c : ℕ) (xs d : List A) → c < n → get_or (entries k n xs) c d ≡ take k (drop (k * c) xs)
  unfolding entries
  entries_at k zero c xs d l = absurd (omega arith)
  entries_at k (suc n) zero xs d l = ap (λ (j : ℕ). take k (drop j xs)) (none k)
    where
      none : (k : ℕ) → 0 ≡ k * 0
      none k = omega arith
  entries_at k (suc n) (suc c) xs d l =
      entries_at k n c (drop k xs) d (omega arith)
      ∙ ap (take k) (drop-drop (k * c) k xs)
      ∙ ap (λ (j : ℕ). take k (drop j xs)) (more k c)
    where
      more : (k c : ℕ) → k + k * c ≡ k * suc c
      more k c = omega arith

  -- entry number c
  pub cut_entry : (k c : ℕ) (xs d : List A) → c < length xs / k → get_or (cut k xs) c d ≡ take k (drop (k * c) xs)
  unfolding cut
  cut_entry k c xs d l = entries_at k (length xs / k) c xs d l

  -- element number j of entry number c
  pub cut_at : (k c j : ℕ) (xs d : List A) (z : A) → c < length xs / k → j < k → get_or (get_or (cut k xs) c d) j z ≡ get_or xs (k * c + j) z
  cut_at k c j xs d z l m =
      ap (λ (e : List A). get_or e j z) (cut_entry k c xs d l)
      ∙ get_or-take k (drop (k * c) xs) j z m
      ∙ get_or-drop (k * c) xs j z

  -- ---- tests

  -- some element of a table of whole entries passes just where some element of some entry does
  pub any_cut : (p : A → Bool) (k : ℕ) (xs : List A) → length xs % k ≡ 0 → any (any p) (cut k xs) ≡ any p xs
  any_cut p k xs h = sym (any_concat p (cut k xs)) ∙ ap (any p) (concat_cut k xs h)
