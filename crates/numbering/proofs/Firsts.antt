-- Laws of the list f 0, f 1, .., f (n - 1), and of runs of numbers in a list. Assumes nothing.
use mathlib.Core.Path.{◌≡◌, ap, ◌∙◌}
use mathlib.Core.List.{List, [], ◌∷◌, ◌++◌, map, map-map, map-append}
use Prim.Native.Nat.{ℕ, zero, suc, ◌+◌, ◌≤◌, ◌<◌}
use native.Mathlib.Nat.{add-zero, zero-add}
use native.Mathlib.Omega.{arith}
use lib.ListN.{length, get_or, length-map}
use lib.Seq.{sets, ext_get_or}
use Rattle.rules.specs.Lists.{up_from}
use Rattle.lists.proofs.Membership.{map_same, in_up_from, length_up_from, get_or_run}
use Rattle.memory.proofs.Stores.{get_or_sets}
use Rattle.numbering.specs.Table.{firsts, run}

-- ---- the first n

pub up_from_snoc : (a n : ℕ) → up_from a (suc n) ≡ up_from a n ++ ((a + n) ∷ [])
unfolding up_from
up_from_snoc a zero = rw (add-zero a)
up_from_snoc a (suc n) =
    let e : suc a + n ≡ a + suc n = omega arith in
    ap (λ (l : List ℕ). a ∷ l) (up_from_snoc (suc a) n ∙ ap (λ (z : ℕ). up_from (suc a) n ++ (z ∷ [])) e)

module _ {A : Type 0} where
  pub length_firsts : (f : ℕ → A) (n : ℕ) → length (firsts f n) ≡ n
  length_firsts f n = length-map (up_from 0 n) f ∙ length_up_from 0 n

  pub get_or_firsts : (f : ℕ → A) (n i : ℕ) (d : A) → i < n → get_or (firsts f n) i d ≡ f i
  get_or_firsts f n i d l = get_or_run f d 0 n i l ∙ ap f (zero-add i)

  pub firsts_same : (f g : ℕ → A) (n : ℕ) → ((i : ℕ) → i < n → f i ≡ g i) → firsts f n ≡ firsts g n
  firsts_same f g n h = map_same f g (up_from 0 n) (λ i u. h i (omega (arith, in_up_from 0 n i u)))

  pub firsts_snoc : (f : ℕ → A) (n : ℕ) → firsts f (suc n) ≡ firsts f n ++ (f n ∷ [])
  firsts_snoc f n =
      ap (map f) (up_from_snoc 0 n) ∙ map-append f (up_from 0 n) ((0 + n) ∷ []) ∙ ap (λ (i : ℕ). firsts f n ++ (f i ∷ [])) (zero-add n)

  -- a list is its elements, one after the other
  pub firsts_get_or : (xs : List A) (d : A) → firsts (λ (i : ℕ). get_or xs i d) (length xs) ≡ xs
  firsts_get_or xs d =
      let f : ℕ → A = λ i. get_or xs i d in
      ext_get_or d (firsts f (length xs)) xs (length_firsts f (length xs))
      (λ i l. get_or_firsts f (length xs) i d (omega (arith, length_firsts f (length xs))))

module _ {A B : Type 0} where
  -- a function of each of the first n
  pub map_firsts : (g : A → B) (f : ℕ → A) (n : ℕ) → map g (firsts f n) ≡ firsts (λ (i : ℕ). g (f i)) n
  map_firsts g f n = map-map g f (up_from 0 n)

-- ---- a run of numbers

pub length_run : (w : List ℕ) (at c : ℕ) → length (run w at c) ≡ c
unfolding run
length_run w at c = length_firsts (λ (q : ℕ). get_or w (at + q) 0) c

pub get_or_of_run : (w : List ℕ) (at c i : ℕ) → i < c → get_or (run w at c) i 0 ≡ get_or w (at + i) 0
unfolding run
get_or_of_run w at c i l = get_or_firsts (λ (q : ℕ). get_or w (at + q) 0) c i 0 l

-- equal numbers make equal runs
pub run_kept : (w w' : List ℕ) (at c : ℕ) → ((i : ℕ) → at ≤ i → i < at + c → get_or w' i 0 ≡ get_or w i 0) → run w' at c ≡ run w at c
unfolding run
run_kept w w' at c h = firsts_same (λ (q : ℕ). get_or w' (at + q) 0) (λ (q : ℕ). get_or w (at + q) 0) c (λ i l. h (at + i) (omega arith) (omega arith))

-- a run that was stored
pub run_sets : (l : List ℕ) (at : ℕ) (vs : List ℕ) → at + length vs ≤ length l → run (sets l at vs) at (length vs) ≡ vs
run_sets l at vs h =
    ext_get_or 0 (run (sets l at vs) at (length vs)) vs (length_run (sets l at vs) at (length vs))
    (λ i l₁. let u : i < length vs = omega (arith, length_run (sets l at vs) at (length vs)) in get_or_of_run (sets l at vs) at (length vs) i u ∙ get_or_sets l at vs i 0 u h)
