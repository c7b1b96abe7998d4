-- The table of smallest parts: its rows and their entries. Assumes nothing.
use mathlib.Core.Path.{◌≡◌, refl, sym, ap, ◌∙◌}
use mathlib.Core.List.{List, [], ◌∷◌, ◌++◌, map, map-append}
use Prim.Native.Nat.{ℕ, ◌*◌, ◌/◌, ◌%◌, ◌≤◌, ◌<◌}
use native.Mathlib.Omega.{arith}
use lib.ListN.{length, get_or, drop, get_or-append}
use Rattle.rules.specs.Lists.{concat, concat_map, overwritten, up_from, any, has}
use Rattle.rules.specs.Mesh.{singles, whole, by_dimension, cell_parts, first_holding, smallest_table, place_of}
use Rattle.rules.specs.Split.{corners_at}
use Rattle.lists.specs.Membership.{In}
use Rattle.lists.proofs.Membership.{get_or_in, in_concat, map_same, concat_map_same}
use Rattle.lists.proofs.Tables.{length_concat}
use Rattle.lists.proofs.Decide.{computed, dec_both, dec_each, dec_number, dec_below}
use Rattle.numbering.specs.Parts.{Within}
use Rattle.numbering.proofs.Rows.{listed_at, length_read}
use Rattle.splitting.specs.declared.kinds.CellKind.{CellKind}
use Rattle.splitting.specs.declared.kinds.CellKind.TheVariants.{Hex, Quad, Segment}
use Rattle.splitting.specs.Kinds.{kind_of, corner_count, smallest_listed}
use Rattle.splitting.specs.Cells.{picked, child_corners}
use Rattle.splitting.proofs.KindParts.{some_corners}

-- what is read of rows that are listed one behind the other
map_rows : (f : ℕ → ℕ) (rows : List (List ℕ)) → map f (concat rows) ≡ concat_map (map f) rows
unfolding concat concat_map
map_rows f [] = refl
map_rows f (row ∷ rows) = map-append f row (concat rows) ∙ ap (λ (r : List ℕ). map f row ++ r) (map_rows f rows)

-- a row of n numbers, each of a part
abbrev Row : ℕ → ℕ → List ℕ → Type 0
Row n parts row = (length row ≡ n) × ((q : ℕ) → In q row → q < parts)

-- the table of a kind: n rows
abbrev dec_table : (n parts : ℕ) (rows : List (List ℕ)) → Dec ((length rows ≡ n) × ((row : List ℕ) → In row rows → Row n parts row))
dec_table n parts rows =
    dec_both (dec_number (length rows) n) (dec_each (λ (row : List ℕ). dec_both (dec_number (length row) n) (dec_each (λ (q : ℕ). dec_below q parts) row)) rows)

table : (kind : CellKind) → (length (smallest_table (kind_of kind)) ≡ corner_count kind) × ((row : List ℕ) → In row (smallest_table (kind_of kind)) → Row (corner_count kind) (length (cell_parts (kind_of kind))) row)
unfolding smallest_table first_holding cell_parts by_dimension singles whole up_from concat has any
table Hex = computed (dec_table 8 27 (smallest_table (kind_of Hex))) tt
table Quad = computed (dec_table 4 9 (smallest_table (kind_of Quad))) tt
table Segment = computed (dec_table 2 3 (smallest_table (kind_of Segment))) tt

table_rows : (kind : CellKind) → length (smallest_table (kind_of kind)) ≡ corner_count kind
table_rows kind = (table kind).0

pub few_numbers : (kind : CellKind) → length (cell_parts (kind_of kind)) ≤ 27
unfolding cell_parts by_dimension singles concat up_from
few_numbers Hex = omega arith
few_numbers Quad = omega arith
few_numbers Segment = omega arith

row_below : (kind : CellKind) (row : List ℕ) → In row (smallest_table (kind_of kind)) → (q : ℕ) → In q row → q < length (cell_parts (kind_of kind))
row_below kind row i = ((table kind).1 row i).1

-- ---- the table, as it is listed

row_length : (kind : CellKind) (row : List ℕ) → In row (smallest_table (kind_of kind)) → length row ≡ corner_count kind
row_length kind row i = ((table kind).1 row i).0

pub length_smallest : (kind : CellKind) → length (smallest_listed kind) ≡ corner_count kind * corner_count kind
unfolding smallest_listed
length_smallest kind =
    length_concat (corner_count kind) (smallest_table (kind_of kind)) (row_length kind) ∙ ap (λ (n : ℕ). corner_count kind * n) (table_rows kind)

-- place i of the list, by its row and column
module _ (kind : CellKind) (i : ℕ) (l : i < length (smallest_listed kind)) where
  pub smallest_place : place_of (smallest_table (kind_of kind)) (i / corner_count kind) (i % corner_count kind) ≡ get_or (smallest_listed kind) i 0
  unfolding smallest_listed
  smallest_place = listed_at (corner_count kind) (smallest_table (kind_of kind)) (some_corners kind) (row_length kind) i l

pub smallest_within : (kind : CellKind) → Within (length (cell_parts (kind_of kind))) (smallest_listed kind)
unfolding smallest_listed
smallest_within kind i l =
    let q = get_or (smallest_listed kind) i 0 in
    let r = in_concat (smallest_table (kind_of kind)) q (get_or_in (smallest_listed kind) i 0 l) in
    row_below kind r.0 r.1 q r.2

-- the corners of all children
pub children_listed : (kind : CellKind) (numbers : List ℕ) → corners_at numbers (smallest_listed kind) ≡ child_corners (kind_of kind) numbers
unfolding corners_at smallest_listed child_corners
children_listed kind numbers = map_rows (λ (q : ℕ). get_or numbers q 0) (smallest_table (kind_of kind))

pub children_length : (kind : CellKind) (numbers : List ℕ) → length (child_corners (kind_of kind) numbers) ≡ corner_count kind * corner_count kind
children_length kind numbers = ap length (sym (children_listed kind numbers)) ∙ length_read numbers (smallest_listed kind) ∙ length_smallest kind

-- ---- what stands behind the numbers is not picked

pub front_picked : (kind : CellKind) (old numbers : List ℕ) → length (cell_parts (kind_of kind)) ≤ length numbers → child_corners (kind_of kind) (overwritten old numbers) ≡ child_corners (kind_of kind) numbers
unfolding child_corners overwritten
front_picked kind old numbers l =
    concat_map_same (picked (numbers ++ drop (length numbers) old)) (picked numbers) (smallest_table (kind_of kind))
    (λ row i. map_same (λ (q : ℕ). get_or (numbers ++ drop (length numbers) old) q 0) (λ (q : ℕ). get_or numbers q 0) row
    (λ q j. get_or-append numbers (drop (length numbers) old) 0 q (omega (arith, row_below kind row i q j))))
