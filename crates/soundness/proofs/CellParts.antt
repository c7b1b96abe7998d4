-- The finite facts of one cell of each kind: its parts, which lies in which, and the parts of its children.
-- Each is a statement over the whole table, proved by computing its decision, which has the same shape. Assumes nothing.
use mathlib.Core.Path.{◌≡◌, refl}
use mathlib.Core.Logic.{◌⊎◌, inl, inr}
use mathlib.Core.List.{List, [], ◌∷◌, map}
use Prim.Native.Nat.{ℕ, ◌*◌, ◌^◌, ◌<◌}
use lib.ListN.{length, get_or}
use Rattle.rules.specs.Lists.{any, concat, up_from, has, same}
use Rattle.rules.specs.Mesh.{Kind, hex, quad, segment, point, kinds, corners, whole, singles, quad_edges, by_dimension, places, cell_parts, first_holding, smallest}
use Rattle.rules.specs.Split.{corners_at}
use Rattle.lists.specs.Membership.{In, Once}
use Rattle.lists.proofs.Once.{once_up_from}
use Rattle.lists.proofs.Decide.{computed, dec_either, dec_both, dec_if, dec_each, dec_some, keep_if, keep_if_in, in_keep_if, once_keep_if, dec_number, dec_below, dec_key, dec_in, dec_once}

-- ---- over the four kinds

pub every : (κ : Kind) → In κ kinds
every hex = inl refl
every quad = inr (inl refl)
every segment = inr (inr (inl refl))
every point = inr (inr (inr (inl refl)))

module _ {P : Kind → Type 0} where
  abbrev pub dec_kinds : ((κ : Kind) → Dec (P κ)) → Dec ((κ : Kind) → P κ)
  dec_kinds d = go (dec_each d kinds)
    where
      go : Dec ((κ : Kind) → In κ kinds → P κ) → Dec ((κ : Kind) → P κ)
      go (yes h) = yes (λ κ. h κ (every κ))
      go (no n) = no (λ h. n (λ κ i. h κ))

-- ---- statements on places and on parts, and their decisions

-- all of p is in q: of places, one part lies in another; of parts, one list in another
module _ {A : Type 0} where
  abbrev pub Within : List A → List A → Type 0
  Within p q = (j : A) → In j p → In j q

  -- the same entries
  abbrev pub Same : List A → List A → Type 0
  Same p q = Within p q × Within q p

abbrev pub within? : (p q : List ℕ) → Dec (Within p q)
within? p q = dec_each (λ (j : ℕ). dec_in dec_number j q) p

abbrev pub same? : (p q : List ℕ) → Dec (Same p q)
same? p q = dec_both (within? p q) (within? q p)

abbrev part? : (p : List ℕ) (l : List (List ℕ)) → Dec (In p l)
part? p l = dec_in dec_key p l

abbrev parts? : (a b : List (List ℕ)) → Dec (Same a b)
parts? a b = dec_both (dec_each (λ (p : List ℕ). part? p b) a) (dec_each (λ (p : List ℕ). part? p a) b)

-- a part of dimension d has 2 ^ d corners: r is k dimensions above p
abbrev pub Above : ℕ → List ℕ → List ℕ → Type 0
Above k p r = 2 ^ k * length p ≡ length r

abbrev above? : (k : ℕ) (p r : List ℕ) → Dec (Above k p r)
above? k p r = dec_number (2 ^ k * length p) (length r)

-- ---- a cell's parts: which lie between two, and which lie k dimensions below one

unfoldable pub between : Kind → List ℕ → List ℕ → List (List ℕ)
between κ p r = keep_if (λ (q : List ℕ). dec_both (within? p q) (within? q r)) (cell_parts κ)

unfoldable pub subs : Kind → ℕ → List ℕ → List (List ℕ)
subs κ k r = keep_if (λ (p : List ℕ). dec_both (within? p r) (above? k p r)) (cell_parts κ)

-- how many parts lie k dimensions below one of dimension d
abbrev pub below : ℕ → ℕ → ℕ
below k d = get_or (get_or ((1 ∷ 1 ∷ 1 ∷ 1 ∷ []) ∷ (0 ∷ 2 ∷ 4 ∷ 6 ∷ []) ∷ (0 ∷ 0 ∷ 4 ∷ 12 ∷ []) ∷ (0 ∷ 0 ∷ 0 ∷ 8 ∷ []) ∷ []) k []) d 0

abbrev pub dimensions : List ℕ
dimensions = 0 ∷ 1 ∷ 2 ∷ 3 ∷ []

-- ---- the parts of a cell

pub once_parts : (κ : Kind) → Once (cell_parts κ)
unfolding same cell_parts by_dimension singles whole up_from concat
once_parts = computed (dec_kinds (λ (κ : Kind). dec_once dec_key (cell_parts κ))) tt

pub placed : (κ : Kind) (p : List ℕ) → In p (cell_parts κ) → Within p (whole κ)
unfolding cell_parts by_dimension singles whole up_from concat
placed = computed (dec_kinds (λ (κ : Kind). dec_each (λ (p : List ℕ). within? p (whole κ)) (cell_parts κ))) tt

pub once_part : (κ : Kind) (p : List ℕ) → In p (cell_parts κ) → Once p
unfolding cell_parts by_dimension singles whole up_from concat
once_part = computed (dec_kinds (λ (κ : Kind). dec_each (dec_once dec_number) (cell_parts κ))) tt

-- of two parts of one size neither lies in the other
pub only : (κ : Kind) (p : List ℕ) → In p (cell_parts κ) → (q : List ℕ) → In q (cell_parts κ) → Within q p → length q ≡ length p → q ≡ p
unfolding same cell_parts by_dimension singles whole up_from concat
only =
    computed (dec_kinds (λ (κ : Kind). dec_each
    (λ (p : List ℕ). dec_each (λ (q : List ℕ). dec_if (within? q p) (dec_if (dec_number (length q) (length p)) (dec_key q p))) (cell_parts κ))
    (cell_parts κ))) tt

pub dimension_of_lem : (κ : Kind) (p : List ℕ) → In p (cell_parts κ) → (d : ℕ) × In d dimensions × In p (places κ d)
unfolding same places cell_parts by_dimension singles whole up_from concat
dimension_of_lem = computed (dec_kinds (λ (κ : Kind). dec_each (λ (p : List ℕ). dec_some (λ (d : ℕ). part? p (places κ d)) dimensions) (cell_parts κ))) tt

pub is_part : (κ : Kind) (d : ℕ) → In d dimensions → (r : List ℕ) → In r (places κ d) → In r (cell_parts κ)
unfolding same places cell_parts by_dimension singles whole up_from concat
is_part = computed (dec_kinds (λ (κ : Kind). dec_each (λ (d : ℕ). dec_each (λ (r : List ℕ). part? r (cell_parts κ)) (places κ d)) dimensions)) tt

pub size : (κ : Kind) (d : ℕ) → In d dimensions → (r : List ℕ) → In r (places κ d) → length r ≡ 2 ^ d
unfolding places by_dimension singles whole up_from
size = computed (dec_kinds (λ (κ : Kind). dec_each (λ (d : ℕ). dec_each (λ (r : List ℕ). dec_number (length r) (2 ^ d)) (places κ d)) dimensions)) tt

pub count_below :
    (κ : Kind) (d : ℕ) → In d dimensions → (r : List ℕ) → In r (places κ d) → (k : ℕ) → In k dimensions → length (subs κ k r) ≡ below k d
unfolding subs keep_if places cell_parts by_dimension singles whole up_from concat
count_below =
    computed (dec_kinds (λ (κ : Kind). dec_each
    (λ (d : ℕ). dec_each (λ (r : List ℕ). dec_each (λ (k : ℕ). dec_number (length (subs κ k r)) (below k d)) dimensions)
    (places κ d)) dimensions)) tt

-- the size decides the dimension
pub power : (a : ℕ) → In a dimensions → (b : ℕ) → In b dimensions → 2 ^ a ≡ 2 ^ b → a ≡ b
power = computed (dec_each (λ (a : ℕ). dec_each (λ (b : ℕ). dec_if (dec_number (2 ^ a) (2 ^ b)) (dec_number a b)) dimensions) dimensions) tt

-- what lies in a part of dimension d: itself, a corner, an edge of a face, or anything in a hex
abbrev pub Lying : Kind → ℕ → List ℕ → List ℕ → Type 0
Lying κ d r q = (q ≡ r) ⊎ (((j : ℕ) × In j (whole κ) × (q ≡ j ∷ [])) ⊎ (((d ≡ 2) × (length q ≡ 2)) ⊎ (d ≡ 3)))

abbrev lying? : (κ : Kind) (d : ℕ) (r q : List ℕ) → Dec (Lying κ d r q)
lying? κ d r q =
    dec_either (dec_key q r) (dec_either (dec_some (λ (j : ℕ). dec_key q (j ∷ [])) (whole κ))
    (dec_either (dec_both (dec_number d 2) (dec_number (length q) 2)) (dec_number d 3)))

pub lying : (κ : Kind) (d : ℕ) → In d dimensions → (r : List ℕ) → In r (places κ d) → (q : List ℕ) → In q (cell_parts κ) → Within q r → Lying κ d r q
unfolding same places cell_parts by_dimension singles whole up_from concat
lying =
    computed (dec_kinds (λ (κ : Kind). dec_each
    (λ (d : ℕ). dec_each (λ (r : List ℕ). dec_each (λ (q : List ℕ). dec_if (within? q r) (lying? κ d r q)) (cell_parts κ))
    (places κ d)) dimensions)) tt

-- only a hex has a part of dimension 3, and that is the whole
pub solid : (κ : Kind) (r : List ℕ) → In r (places κ 3) → (κ ≡ hex) × (r ≡ whole κ)
unfolding places by_dimension
solid hex r (inr x'') = elim x'' [ ]
solid hex r (inl e) = (refl, e)
solid quad r i = absurd i
solid segment r i = absurd i
solid point r i = absurd i

pub once_whole : (κ : Kind) → Once (whole κ)
unfolding whole
once_whole κ = once_up_from 0 (corners κ)

pub whole_in : (κ : Kind) → In (whole κ) (cell_parts κ)
unfolding same cell_parts by_dimension singles whole up_from concat
whole_in = computed (dec_kinds (λ (κ : Kind). part? (whole κ) (cell_parts κ))) tt

pub corner_in : (κ : Kind) (i : ℕ) → In i (whole κ) → In (i ∷ []) (cell_parts κ)
unfolding same cell_parts by_dimension singles whole up_from concat
corner_in = computed (dec_kinds (λ (κ : Kind). dec_each (λ (i : ℕ). part? (i ∷ []) (cell_parts κ)) (whole κ))) tt

-- ---- corners_at round a face: its edges are the steps

-- a step of r, by its places
pub step_in : (κ : Kind) (r : List ℕ) → In r (places κ 2) → (e : List ℕ) → In e quad_edges → Within (corners_at r e) r
unfolding places by_dimension singles whole up_from corners_at
step_in = computed (dec_kinds (λ (κ : Kind). dec_each (λ (r : List ℕ). dec_each (λ (e : List ℕ). within? (corners_at r e) r) quad_edges) (places κ 2))) tt

pub step_once : (κ : Kind) (r : List ℕ) → In r (places κ 2) → (e : List ℕ) → In e quad_edges → Once (corners_at r e)
unfolding places by_dimension singles whole up_from corners_at
step_once =
    computed (dec_kinds (λ (κ : Kind). dec_each (λ (r : List ℕ). dec_each (λ (e : List ℕ). dec_once dec_number (corners_at r e)) quad_edges)
    (places κ 2))) tt

pub step_edge :
    (κ : Kind) (r : List ℕ) → In r (places κ 2) → (e : List ℕ) → In e quad_edges → (q : List ℕ) × In q (cell_parts κ) × Same (corners_at r e) q
unfolding places cell_parts by_dimension singles whole up_from concat corners_at
step_edge =
    computed (dec_kinds (λ (κ : Kind). dec_each
    (λ (r : List ℕ). dec_each (λ (e : List ℕ). dec_some (λ (q : List ℕ). same? (corners_at r e) q) (cell_parts κ)) quad_edges) (places κ 2))) tt

pub edge_step :
    (κ : Kind) (r : List ℕ) → In r (places κ 2) → (q : List ℕ) → In q (cell_parts κ) → Within q r → length q ≡ 2 →
    (e : List ℕ) × In e quad_edges × Same q (corners_at r e)
unfolding places cell_parts by_dimension singles whole up_from concat corners_at
edge_step =
    computed (dec_kinds (λ (κ : Kind). dec_each
    (λ (r : List ℕ). dec_each (λ (q : List ℕ). dec_if (within? q r)
    (dec_if (dec_number (length q) 2) (dec_some (λ (e : List ℕ). same? q (corners_at r e)) quad_edges))) (cell_parts κ)) (places κ 2))) tt

-- ---- the children of a cell, by its parts

pub smallest_part : (κ : Kind) (i : ℕ) → In i (whole κ) → (j : ℕ) → In j (whole κ) → In (smallest κ i j) (cell_parts κ)
unfolding same cell_parts by_dimension singles whole up_from concat has any smallest first_holding
smallest_part =
    computed (dec_kinds (λ (κ : Kind). dec_each (λ (i : ℕ). dec_each (λ (j : ℕ). part? (smallest κ i j) (cell_parts κ)) (whole κ))
    (whole κ))) tt

-- and its number among the cell's parts is below their count
pub smallest_below : (κ : Kind) (i : ℕ) → In i (whole κ) → (j : ℕ) → In j (whole κ) → first_holding i j (cell_parts κ) < length (cell_parts κ)
unfolding cell_parts by_dimension singles whole up_from concat has any first_holding
smallest_below =
    computed (dec_kinds (λ (κ : Kind). dec_each
    (λ (i : ℕ). dec_each (λ (j : ℕ). dec_below (first_holding i j (cell_parts κ)) (length (cell_parts κ))) (whole κ)) (whole κ))) tt

-- each part is the smallest for two corners
pub reached : (κ : Kind) (r : List ℕ) → In r (cell_parts κ) → (i : ℕ) × In i (whole κ) × ((j : ℕ) × In j (whole κ) × (smallest κ i j ≡ r))
unfolding same cell_parts by_dimension singles whole up_from concat has any smallest first_holding
reached =
    computed (dec_kinds (λ (κ : Kind). dec_each
    (λ (r : List ℕ). dec_some (λ (i : ℕ). dec_some (λ (j : ℕ). dec_key (smallest κ i j) r) (whole κ)) (whole κ)) (cell_parts κ))) tt

-- l is all that lies between two parts, k dimensions apart
abbrev pub Interval : Kind → ℕ → List (List ℕ) → Type 0
Interval κ k l = Once l × ((p : List ℕ) × In p l × ((r : List ℕ) × In r l × (Within p r × (Above k p r × Same l (between κ p r)))))

abbrev interval? : (κ : Kind) (k : ℕ) (l : List (List ℕ)) → Dec (Interval κ k l)
interval? κ k l =
    dec_both (dec_once dec_key l) (dec_some
    (λ (p : List ℕ). dec_some (λ (r : List ℕ). dec_both (within? p r) (dec_both (above? k p r) (parts? l (between κ p r)))) l) l)

pub child_interval :
    (κ : Kind) (k : ℕ) → In k dimensions → (i : ℕ) → In i (whole κ) → (ps : List ℕ) → In ps (places κ k) →
    Interval κ k (map (smallest κ i) ps)
unfolding same between keep_if places cell_parts by_dimension singles whole up_from concat has any smallest first_holding
child_interval =
    computed (dec_kinds (λ (κ : Kind). dec_each
    (λ (k : ℕ). dec_each (λ (i : ℕ). dec_each (λ (ps : List ℕ). interval? κ k (map (smallest κ i) ps)) (places κ k))
    (whole κ)) dimensions)) tt

-- and the other way round: all that lies between two parts is a part of a child
pub child_part :
    (κ : Kind) (k : ℕ) → In k dimensions → (r : List ℕ) → In r (cell_parts κ) → (p : List ℕ) → In p (subs κ k r) →
    (i : ℕ) × In i (whole κ) × ((ps : List ℕ) × In ps (places κ k) × Same (map (smallest κ i) ps) (between κ p r))
unfolding same subs between keep_if places cell_parts by_dimension singles whole up_from concat has any smallest first_holding
child_part =
    computed (dec_kinds (λ (κ : Kind). dec_each
    (λ (k : ℕ). dec_each (λ (r : List ℕ). dec_each
    (λ (p : List ℕ). dec_some (λ (i : ℕ). dec_some (λ (ps : List ℕ). parts? (map (smallest κ i) ps) (between κ p r)) (places κ k)) (whole κ))
    (subs κ k r)) (cell_parts κ)) dimensions)) tt

-- the whole of child i is all that holds corner i
pub whole_child :
    (κ : Kind) (i : ℕ) → In i (whole κ) →
    Once (map (smallest κ i) (whole κ)) × Same (map (smallest κ i) (whole κ)) (between κ (i ∷ []) (whole κ))
unfolding same between keep_if cell_parts by_dimension singles whole up_from concat has any smallest first_holding
whole_child =
    computed (dec_kinds (λ (κ : Kind). dec_each
    (λ (i : ℕ). dec_both (dec_once dec_key (map (smallest κ i) (whole κ)))
    (parts? (map (smallest κ i) (whole κ)) (between κ (i ∷ []) (whole κ)))) (whole κ))) tt

-- Going round a face of a child, neighbours are one dimension apart, and those one dimension apart are neighbours.
-- The two of l at the places of e:
abbrev pub first : List (List ℕ) → List ℕ → List ℕ
first l e = get_or l (get_or e 0 0) []

abbrev pub second : List (List ℕ) → List ℕ → List ℕ
second l e = get_or l (get_or e 1 0) []

abbrev pub At : List (List ℕ) → List ℕ → List ℕ → List ℕ → Type 0
At l a b e = (a ≡ first l e) × (b ≡ second l e)

abbrev at? : (l : List (List ℕ)) (a b e : List ℕ) → Dec (At l a b e)
at? l a b e = dec_both (dec_key a (first l e)) (dec_key b (second l e))

abbrev pub Neighbours : List (List ℕ) → Type 0
Neighbours l =
    ((e : List ℕ) → In e quad_edges → Above 1 (first l e) (second l e) ⊎ Above 1 (second l e) (first l e))
    × ((a : List ℕ) → In a l → (b : List ℕ) → In b l → Above 1 a b → (e : List ℕ) × In e quad_edges × (At l a b e ⊎ At l b a e))

abbrev neighbours? : (l : List (List ℕ)) → Dec (Neighbours l)
neighbours? l =
    dec_both
    (dec_each (λ (e : List ℕ). dec_either (above? 1 (first l e) (second l e)) (above? 1 (second l e) (first l e))) quad_edges)
    (dec_each (λ (a : List ℕ). dec_each
    (λ (b : List ℕ). dec_if (above? 1 a b) (dec_some (λ (e : List ℕ). dec_either (at? l a b e) (at? l b a e)) quad_edges)) l) l)

pub neighbours : (κ : Kind) (i : ℕ) → In i (whole κ) → (ps : List ℕ) → In ps (places κ 2) → Neighbours (map (smallest κ i) ps)
unfolding same places cell_parts by_dimension singles whole up_from concat has any smallest first_holding
neighbours =
    computed (dec_kinds (λ (κ : Kind). dec_each (λ (i : ℕ). dec_each (λ (ps : List ℕ). neighbours? (map (smallest κ i) ps)) (places κ 2))
    (whole κ))) tt

-- ---- membership of `between` and `subs`

pub in_between : (κ : Kind) (p r q : List ℕ) → In q (between κ p r) → In q (cell_parts κ) × Within p q × Within q r
unfolding between
in_between κ p r q i = let a = in_keep_if (λ (q : List ℕ). dec_both (within? p q) (within? q r)) (cell_parts κ) q i in (a.0, a.1.0, a.1.1)

pub between_in : (κ : Kind) (p r q : List ℕ) → In q (cell_parts κ) → Within p q → Within q r → In q (between κ p r)
unfolding between
between_in κ p r q i h k = keep_if_in (λ (q : List ℕ). dec_both (within? p q) (within? q r)) (cell_parts κ) q i (h, k)

pub once_between : (κ : Kind) (p r : List ℕ) → Once (between κ p r)
unfolding between
once_between κ p r = once_keep_if (λ (q : List ℕ). dec_both (within? p q) (within? q r)) (cell_parts κ) (once_parts κ)

pub in_subs : (κ : Kind) (k : ℕ) (r p : List ℕ) → In p (subs κ k r) → In p (cell_parts κ) × Within p r × Above k p r
unfolding subs
in_subs κ k r p i = let a = in_keep_if (λ (p : List ℕ). dec_both (within? p r) (above? k p r)) (cell_parts κ) p i in (a.0, a.1.0, a.1.1)

pub subs_in : (κ : Kind) (k : ℕ) (r p : List ℕ) → In p (cell_parts κ) → Within p r → Above k p r → In p (subs κ k r)
unfolding subs
subs_in κ k r p i h e = keep_if_in (λ (p : List ℕ). dec_both (within? p r) (above? k p r)) (cell_parts κ) p i (h, e)

pub once_subs : (κ : Kind) (k : ℕ) (r : List ℕ) → Once (subs κ k r)
unfolding subs
once_subs κ k r = once_keep_if (λ (p : List ℕ). dec_both (within? p r) (above? k p r)) (cell_parts κ) (once_parts κ)
