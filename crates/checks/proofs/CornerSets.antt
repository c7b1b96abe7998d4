-- Two cells of one size that name no corner twice have one corner set just where each corner of the one is a corner of the other.
-- Assumes nothing.
use mathlib.Core.Path.{◌≡◌, refl, sym, ap, ◌∙◌, subst}
use mathlib.Core.Bool.{Bool, true, false, not, ◌&&◌, ◌||◌}
use mathlib.Core.Logic.{inl, inr, ⊎_elim}
use mathlib.Core.List.{List, [], ◌∷◌, map}
use Prim.Native.Nat.{ℕ, ◌+◌, ◌*◌, ◌<◌, ◌≤◌}
use native.Mathlib.Omega.{arith}
use lib.Dec.{eqb}
use lib.ListN.{length, drop}
use lib.Seq.{drop-drop}
use borrow.Author.Tests.{not-true, not-false}
use Rattle.rules.specs.Lists.{any, repeats, cut, has, key_of, same}
use Rattle.lists.specs.Membership.{In, Once}
use Rattle.checks.specs.Held.{within}
use Rattle.checks.proofs.Library.{drop-cut}
use Rattle.checks.proofs.Slices.{entry_within}
use Rattle.lists.proofs.Once.{length_within}
use Rattle.lists.proofs.Tables.{length_entry}
use Rattle.lists.proofs.Tests.{either, or_neither, any_in, none_in, any_same, any_map, has_in, has_not, repeats_once_numbers}
use Rattle.lists.proofs.Keys.{same_members, ne_same, eq_same, key_ext}

-- a list without repeats that lies within another of the same length is all of it
onto : (xs ys : List ℕ) → Once xs → length xs ≡ length ys → ((x : ℕ) → In x xs → In x ys) → (y : ℕ) → In y ys → In y xs
onto xs ys o e s y i = ⊎_elim (λ (h : has y xs ≡ true). has_in y xs h) (λ (n : has y xs ≡ false). absurd (longer n)) (either (has y xs))
  where
    all : (x : ℕ) → In x (y ∷ xs) → In x ys
    all x (inl p) = subst (λ (z : ℕ). In z ys) (sym p) i
    all x (inr j) = s x j

    longer : has y xs ≡ false → ⊥
    longer n = omega (arith, length_within (y ∷ xs) ys ((λ j. has_not y xs n j), o) all)

-- some corner of the one is none of the other
abbrev strange : List ℕ → ℕ → Bool
strange b x = not (has x b)

all_known : (b a : List ℕ) → within a b ≡ not (any (strange b) a)
unfolding any
all_known b [] = refl
all_known b (x ∷ xs) = go (has x b) (all_known b xs)
  where
    go : (t : Bool) → within xs b ≡ not (any (strange b) xs) → (t && within xs b) ≡ not (not t || any (strange b) xs)
    go true e = e
    go false e = refl

same_by_corners : (a b : List ℕ) → length a ≡ length b → repeats eqb a ≡ false → repeats eqb b ≡ false
    → same (key_of a) (key_of b) ≡ not (any (strange b) a)
same_by_corners a b e p q = go (any (strange b) a) refl
  where
    go : (t : Bool) → any (strange b) a ≡ t → same (key_of a) (key_of b) ≡ not t
    go true h =
        let r = any_in (strange b) a h in
        ne_same (key_of a) (key_of b) (λ k. has_not r.0 b (not-true (has r.0 b) r.2) (same_members a b k r.0 r.1))
    go false h =
        let inside : (x : ℕ) → In x a → In x b = λ x i. has_in x b (not-false (has x b) (none_in (strange b) a h x i)) in
        let o = repeats_once_numbers a p in
        eq_same (key_of a) (key_of b) (key_ext a b o (repeats_once_numbers b q) inside (onto a b o e inside))

-- each corner of the one is a corner of the other
pub within_same : (a b : List ℕ) → length a ≡ length b → repeats eqb a ≡ false → repeats eqb b ≡ false → within a b ≡ same (key_of a) (key_of b)
within_same a b e p q = all_known b a ∙ sym (same_by_corners a b e p q)

-- ---- the cells of a table

-- the cells behind cell c
pub cells_behind : (k : ℕ) (table : List ℕ) (c : ℕ) → 0 < k → c < length (cut k table) → cut k (drop k (drop (k * c) table)) ≡ drop (c + 1) (cut k table)
cells_behind k table c pos h =
    let w : k * c + k ≤ length table = entry_within k c table h in
    let e : k * (c + 1) ≡ k * c + k = omega arith in
    ap (cut k) (drop-drop k (k * c) table ∙ ap (λ (n : ℕ). drop n table) (sym e)) ∙ sym (drop-cut k pos (c + 1) table (omega (arith, w)))

-- cells of one size that name no corner twice: two have one corner set just where one lies within the other
pub repeats_within : (n : ℕ) (cells : List (List ℕ)) → ((c : List ℕ) → In c cells → length c ≡ n) → any (repeats eqb) cells ≡ false
    → repeats within cells ≡ repeats same (map key_of cells)
unfolding repeats any
repeats_within n [] size h = refl
repeats_within n (c ∷ cells) size h =
    let e = or_neither (repeats eqb c) (any (repeats eqb) cells) h in
    let first : any (within c) cells ≡ any (same (key_of c)) (map key_of cells) =
    any_same (within c) (λ (d : List ℕ). same (key_of c) (key_of d)) cells
    (λ d i. within_same c d (size c (inl refl) ∙ sym (size d (inr i))) e.0 (none_in (repeats eqb) cells e.1 d i))
    ∙ sym (any_map (same (key_of c)) key_of cells) in
    rw (first, repeats_within n cells (λ d i. size d (inr i)) e.1)

pub duplicates_within : (k : ℕ) (table : List ℕ) → any (repeats eqb) (cut k table) ≡ false
    → repeats within (cut k table) ≡ repeats same (map key_of (cut k table))
duplicates_within k table h = repeats_within k (cut k table) (length_entry k table) h
