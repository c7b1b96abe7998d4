-- The places of the parts' corners: as many as a part has corners, each below the cell's count. Assumes nothing.
use mathlib.Core.Path.{◌≡◌, refl, sym, ap, ◌∙◌}
use mathlib.Core.Logic.{◌⊎◌, inl, inr}
use mathlib.Core.List.{List, [], ◌∷◌, map}
use Prim.Native.Nat.{ℕ, zero, suc, ◌*◌, ◌/◌, ◌%◌, ◌≤◌, ◌<◌}
use native.Mathlib.Nat.{zero-add, not-suc-le-zero, one-le-pow, mul-div-le, mul-div_cancel_left, mul-le-mul_left}
use native.Mathlib.Omega.{arith}
use lib.ListN.{length, get_or, take, drop, replicate, length-map}
use lib.Seq.{take_at}
use Rattle.rules.specs.Lists.{concat, concat_map, overwritten, up_from, cut}
use Rattle.rules.specs.Mesh.{Kind, hex, quad, segment, point, corners, singles, whole, by_dimension, places, place_of}
use Rattle.rules.specs.Split.{key_at}
use Rattle.lists.specs.Membership.{In}
use Rattle.lists.proofs.Membership.{get_or_in, get_or_up_from, concat_map_same}
use Rattle.lists.proofs.Once.{length_concat_map}
use Rattle.lists.proofs.Tables.{length_cut, length_concat, cut_concat}
use Rattle.lists.proofs.Decide.{computed, dec_both, dec_each, dec_number, dec_below}
use Rattle.numbering.specs.declared.parts.Parts.{Parts}
use Rattle.numbering.specs.declared.parts.Parts.TheVariants.{HexEdges, HexFaces, Hexes, QuadEdges, Quads, Segments, SegmentFaces, Points}
use Rattle.numbering.specs.Parts.{dimension_of, places_of, part_corners, cell_corners, part_keys, table_keys, places_listed, Within, listed_keys}
use Rattle.numbering.proofs.Rows.{row_of, listed_at}

-- a part of c corners of a cell of n
abbrev Part : ℕ → ℕ → List ℕ → Type 0
Part c n p = (length p ≡ c) × ((q : ℕ) → In q p → q < n)

abbrev dec_parts : (c n : ℕ) (ps : List (List ℕ)) → Dec ((p : List ℕ) → In p ps → Part c n p)
dec_parts c n ps = dec_each (λ (p : List ℕ). dec_both (dec_number (length p) c) (dec_each (λ (q : ℕ). dec_below q n) p)) ps

each_part : (parts : Parts) (p : List ℕ) → In p (places_of parts) → Part (part_corners parts) (cell_corners parts) p
unfolding places by_dimension singles whole up_from
each_part HexEdges = computed (dec_parts 2 8 (places_of HexEdges)) tt
each_part HexFaces = computed (dec_parts 4 8 (places_of HexFaces)) tt
each_part Hexes = computed (dec_parts 8 8 (places_of Hexes)) tt
each_part QuadEdges = computed (dec_parts 2 4 (places_of QuadEdges)) tt
each_part Quads = computed (dec_parts 4 4 (places_of Quads)) tt
each_part Segments = computed (dec_parts 2 2 (places_of Segments)) tt
each_part SegmentFaces = computed (dec_parts 4 2 (places_of SegmentFaces)) tt
each_part Points = computed (dec_parts 1 1 (places_of Points)) tt

module _ (parts : Parts) (j : ℕ) (l : j < length (places_of parts)) where
  pub part_size : length (get_or (places_of parts) j []) ≡ part_corners parts
  part_size = (each_part parts (get_or (places_of parts) j []) (get_or_in (places_of parts) j [] l)).0

  pub place_below : (q : ℕ) → q < part_corners parts → place_of (places_of parts) j q < cell_corners parts
  place_below q u =
      let p = get_or (places_of parts) j [] in
      (each_part parts p (get_or_in (places_of parts) j [] l)).1 (get_or p q 0) (get_or_in p q 0 (omega (arith, part_size)))

-- a cell has at most 12 parts of one dimension
pub few_parts : (parts : Parts) → length (places_of parts) ≤ 12
unfolding places by_dimension singles up_from
few_parts HexEdges = omega arith
few_parts HexFaces = omega arith
few_parts Hexes = omega arith
few_parts QuadEdges = omega arith
few_parts Quads = omega arith
few_parts Segments = omega arith
few_parts SegmentFaces = omega arith
few_parts Points = omega arith

-- and at most twice as many as corners
parts_by_corners : (parts : Parts) → length (places_of parts) ≤ 2 * cell_corners parts
unfolding places by_dimension singles up_from
parts_by_corners HexEdges = omega arith
parts_by_corners HexFaces = omega arith
parts_by_corners Hexes = omega arith
parts_by_corners QuadEdges = omega arith
parts_by_corners Quads = omega arith
parts_by_corners Segments = omega arith
parts_by_corners SegmentFaces = omega arith
parts_by_corners Points = omega arith

pub length_part_keys : (parts : Parts) (cell : List ℕ) → length (part_keys parts cell) ≡ length (places_of parts)
unfolding part_keys
length_part_keys parts cell = length-map (places_of parts) (key_at cell)

pub length_table_keys : (parts : Parts) (cells : List ℕ) → length (table_keys parts cells) ≡ length (places_of parts) * (length cells / cell_corners parts)
unfolding table_keys
length_table_keys parts cells =
    length_concat_map (part_keys parts) (length (places_of parts)) (cut (cell_corners parts) cells) (λ cell _. length_part_keys parts cell)
    ∙ ap (λ (n : ℕ). length (places_of parts) * n) (length_cut (cell_corners parts) cells)

pub few_keys : (parts : Parts) (cells : List ℕ) → length (table_keys parts cells) ≤ 2 * length cells
few_keys parts cells =
    let k = cell_corners parts in
    omega (arith, length_table_keys parts cells, mul-le-mul_left (length cells / k) (parts_by_corners parts), mul-div-le (length cells) k)

-- ---- the list of the places, part behind part

pub some_part : (parts : Parts) → 0 < part_corners parts
some_part parts = one-le-pow (dimension_of parts) 2 (omega arith)

part_rows_lem : (parts : Parts) (p : List ℕ) → In p (places_of parts) → length p ≡ part_corners parts
part_rows_lem parts p i = (each_part parts p i).0

pub length_listed : (parts : Parts) → length (places_listed parts) ≡ part_corners parts * length (places_of parts)
unfolding places_listed
length_listed parts = length_concat (part_corners parts) (places_of parts) (part_rows_lem parts)

-- as many as are listed, in the numbers that the code has
pub list_size : (parts : Parts) (c n : ℕ) → c ≡ part_corners parts → n ≡ length (places_of parts) → c * n ≡ length (places_listed parts)
list_size parts c n p q = rw (p, q) (sym (length_listed parts))

-- and what is lent of an array that has the list at its front
pub list_lent : (parts : Parts) (c n : ℕ) (array : List ℕ) → c ≡ part_corners parts → n ≡ length (places_of parts) → take (length (places_listed parts)) array ≡ places_listed parts → take (c * n) array ≡ places_listed parts
list_lent parts c n array p q e = rw (list_size parts c n p q) e

pub count_listed : (parts : Parts) → length (places_of parts) ≡ length (places_listed parts) / part_corners parts
count_listed parts =
    sym (ap (λ (n : ℕ). n / part_corners parts) (length_listed parts) ∙ mul-div_cancel_left (length (places_of parts)) (some_part parts))

pub few_listed : (parts : Parts) → length (places_listed parts) ≤ 24
unfolding places_listed concat places by_dimension singles whole up_from
few_listed HexEdges = omega arith
few_listed HexFaces = omega arith
few_listed Hexes = omega arith
few_listed QuadEdges = omega arith
few_listed Quads = omega arith
few_listed Segments = omega arith
few_listed SegmentFaces = omega arith
few_listed Points = omega arith

-- what is at the front of an array that is the list and zeros behind it
pub list_front : (parts : Parts) (array : List ℕ) → array ≡ overwritten (replicate 24 0) (places_listed parts) → take (length (places_listed parts)) array ≡ places_listed parts
unfolding overwritten
list_front parts array e =
    let l = places_listed parts in
    rw e (take_at l (drop (length l) (replicate 24 0)) (length l) refl)

-- place i of the list, by its part and corner
module _ (parts : Parts) (i : ℕ) (l : i < length (places_listed parts)) where
  pub part_of : (i / part_corners parts < length (places_of parts)) × (i % part_corners parts < part_corners parts)
  unfolding places_listed
  part_of = row_of (part_corners parts) (places_of parts) (some_part parts) (part_rows_lem parts) i l

  pub listed_place : place_of (places_of parts) (i / part_corners parts) (i % part_corners parts) ≡ get_or (places_listed parts) i 0
  unfolding places_listed
  listed_place = listed_at (part_corners parts) (places_of parts) (some_part parts) (part_rows_lem parts) i l

-- they are places in the cell
pub listed_within : (parts : Parts) → Within (cell_corners parts) (places_listed parts)
listed_within parts i l =
    let p = part_of parts i l in
    rw (← listed_place parts i l) (place_below parts (i / part_corners parts) p.0 (i % part_corners parts) p.1)

pub cell_listed : (parts : Parts) (cell : List ℕ) → listed_keys (part_corners parts) (places_listed parts) cell ≡ part_keys parts cell
unfolding listed_keys part_keys places_listed
cell_listed parts cell = ap (map (key_at cell)) (cut_concat (part_corners parts) (places_of parts) (some_part parts) (part_rows_lem parts))

pub table_listed : (parts : Parts) (cells : List ℕ) → concat_map (listed_keys (part_corners parts) (places_listed parts)) (cut (cell_corners parts) cells) ≡ table_keys parts cells
unfolding table_keys
table_listed parts cells =
    concat_map_same (listed_keys (part_corners parts) (places_listed parts)) (part_keys parts) (cut (cell_corners parts) cells) (λ cell _. cell_listed parts cell)

-- the same, where c is how many corners a part has
module _ (parts : Parts) (c : ℕ) (p : c ≡ part_corners parts) where
  pub sized_count : length (places_listed parts) / c ≡ length (places_of parts)
  sized_count = rw p (sym (count_listed parts))

  pub sized_keys : (cell : List ℕ) → listed_keys c (places_listed parts) cell ≡ part_keys parts cell
  sized_keys cell = rw p (cell_listed parts cell)

-- ---- a cell by itself

whole_place : (κ : Kind) (part corner : ℕ) → part < 1 → corner < corners κ → corner ≡ place_of (whole κ ∷ []) part corner
unfolding whole
whole_place κ zero corner l u = sym (get_or_up_from 0 (corners κ) corner 0 u ∙ zero-add corner)
whole_place κ (suc part) corner l u = absurd (omega arith)

-- its corners in order
pub itself : (p : Parts) (part corner : ℕ) → part < length (places_of p) → corner < part_corners p → (p ≡ Hexes) ⊎ ((p ≡ Quads) ⊎ ((p ≡ Segments) ⊎ ((p ≡ SegmentFaces) ⊎ (p ≡ Points)))) → corner ≡ place_of (places_of p) part corner
unfolding places by_dimension singles whole up_from
itself p part corner l u h =
    elim h [
      | inl e ↦ rw e (whole_place hex part corner (rw e at l) (rw e at u))
      | inr h₁ ↦ elim h₁ [
        | inl e ↦ rw e (whole_place quad part corner (rw e at l) (rw e at u))
        | inr h₂ ↦ elim h₂ [
          | inl e ↦ rw e (whole_place segment part corner (rw e at l) (rw e at u))
          | inr h₃ ↦ elim h₃ [
            | inl e ↦ absurd (not-suc-le-zero (rw e at l))
            | inr e ↦ rw e (whole_place point part corner (rw e at l) (rw e at u))
          ]
        ]
      ]
    ]
