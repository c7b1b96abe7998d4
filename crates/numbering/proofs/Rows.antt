-- Rows of one length, listed one behind the other: what stands where, and what is read at their places. Assumes nothing.
use mathlib.Core.Path.{◌≡◌, refl, sym, ap, ◌∙◌}
use mathlib.Core.List.{List, [], ◌∷◌, ◌++◌, map-append}
use Prim.Native.Nat.{ℕ, ◌+◌, ◌*◌, ◌/◌, ◌%◌, ◌-◌, ◌≤◌, ◌<◌}
use native.Mathlib.Nat.{mod-lt, div-add-mod, div-lt_iff_lt-mul, mul-div_cancel_left}
use native.Mathlib.Omega.{arith}
use lib.ListN.{length, get_or, take, drop, length-map}
use native.Mathlib.Numerals.{add-one}
use lib.Seq.{take_at, take-suc}
use Rattle.std.specs.List.{flat_map}
use Rattle.rules.specs.Lists.{concat, cut, overwritten}
use Rattle.rules.specs.Mesh.{place_of}
use Rattle.rules.specs.Split.{corners_at, key_at}
use Rattle.lists.specs.Membership.{In}
use Rattle.lists.proofs.Membership.{get_or_map}
use Rattle.lists.proofs.Tables.{length_cut, length_concat, cut_concat, cut_at}
use Rattle.memory.proofs.Stores.{Storing, store_end, sets_front}
use Rattle.numbering.specs.Parts.{listed_keys}
use Rattle.numbering.proofs.Passes.{entry_is}

module _ (c : ℕ) (rows : List (List ℕ)) (some : 0 < c) (each : (row : List ℕ) → In row rows → length row ≡ c) where
  -- place i of the list is place i % c of row i / c
  pub row_of : (i : ℕ) → i < length (concat rows) → (i / c < length rows) × (i % c < c)
  row_of i l = ((div-lt_iff_lt-mul {k = c} {x = i} {y = length rows} some).1 (omega (arith, length_concat c rows each)), mod-lt i some)

  pub listed_at : (i : ℕ) → i < length (concat rows) → place_of rows (i / c) (i % c) ≡ get_or (concat rows) i 0
  listed_at i l =
      let r = row_of i l in
      let e = cut_concat c rows some each in
      let n : length (concat rows) / c ≡ length rows = ap (λ (k : ℕ). k / c) (length_concat c rows each) ∙ mul-div_cancel_left (length rows) some in
      ap (λ (t : List (List ℕ)). get_or (get_or t (i / c) []) (i % c) 0) (sym e)
      ∙ cut_at c (i / c) (i % c) (concat rows) [] 0 (omega (arith, r.0, n)) r.1
      ∙ ap (λ (k : ℕ). get_or (concat rows) k 0) (div-add-mod i c)

-- a list that a loop has stored from the front on stands at the front of the array
pub at_front : {s d w : List ℕ} {i : ℕ} → Storing 0 s d w i → length s ≤ i → length s ≤ length d → take (length s) w ≡ s
unfolding overwritten
at_front {s} {d} p l h = ap (take (length s)) (store_end p l ∙ sets_front d s h) ∙ take_at s (drop (length s) d) (length s) refl

-- ---- a row that is lent: c places from c * j on

module _ (c j : ℕ) (places : List ℕ) (l : j < length places / c) where
  abbrev row : List ℕ
  row = take (c * j + c - c * j) (drop (c * j) places)

  pub row_key : (cell : List ℕ) → key_at cell row ≡ get_or (listed_keys c places cell) j []
  unfolding listed_keys
  row_key cell =
      ap (key_at cell) (entry_is c j places l)
      ∙ sym (get_or_map (key_at cell) (cut c places) j [] [] (omega (arith, length_cut c places)))

pub length_listed_keys : (c : ℕ) (places cell : List ℕ) → length (listed_keys c places cell) ≡ length places / c
unfolding listed_keys
length_listed_keys c places cell = length-map (cut c places) (key_at cell) ∙ length_cut c places

-- as many numbers are read as there are places
pub length_read : (from places : List ℕ) → length (corners_at from places) ≡ length places
unfolding corners_at
length_read from places = length-map places (λ (q : ℕ). get_or from q 0)

-- one more number is read
pub read_more : (from places : List ℕ) (i : ℕ) → i < length places → corners_at from (take i places) ++ (get_or from (get_or places i 0) 0 ∷ []) ≡ corners_at from (take (i + 1) places)
unfolding corners_at
read_more from places i l =
    let f : ℕ → ℕ = λ q. get_or from q 0 in
    sym (rw (add-one i, take-suc places i 0 l) (map-append f (take i places) (get_or places i 0 ∷ [])))

-- ---- rows that are stored at the front of an array

flattened : (rows : List (List ℕ)) → flat_map (λ row. row) rows ≡ concat rows
unfolding concat
flattened [] = refl
flattened (row ∷ rows) = ap (λ (r : List ℕ). row ++ r) (flattened rows)

pub rows_listed : (rows listed : List (List ℕ)) → rows ≡ listed → flat_map (λ row. row) rows ≡ concat listed
rows_listed rows listed e = flattened rows ∙ ap concat e

pub front_listed : (rows listed : List (List ℕ)) (old : List ℕ) → rows ≡ listed → take (length (concat listed)) (overwritten old (flat_map (λ row. row) rows)) ≡ concat listed
unfolding overwritten
front_listed rows listed old e = rw (rows_listed rows listed e) (take_at (concat listed) (drop (length (concat listed)) old) (length (concat listed)) refl)
