-- The cells of a topology and the parts that are met in walking them, with nothing assumed of the topology.
use mathlib.Core.Path.{◌≡◌, refl, sym, ap, ◌∙◌, subst}
use mathlib.Core.Logic.{inl, inr, ⊎_elim}
use mathlib.Core.List.{List, [], ◌∷◌, ◌++◌, map, head-eq_of_cons-eq}
use Prim.Native.Nat.{ℕ, ◌≤◌, ◌<◌, ◌^◌, zero-le}
use native.Mathlib.Nat.{zero-add}
use native.Mathlib.Omega.{arith}
use lib.ListN.{length, length-map}
use lib.Seq.{ext_get_or}
use Rattle.rules.specs.Lists.{concat_map, up_from, Key, insert, key_of}
use Rattle.rules.specs.Mesh.{Kind, hex, quad, segment, point, kinds, corners, whole, singles, places, cell_parts, Topology, cells_of}
use Rattle.rules.specs.Split.{corners_at, key_at, met, distinct_parts, parts, fine_vertex, child, children, split_by, split}
use Rattle.lists.specs.Membership.{In, Once}
use Rattle.lists.proofs.Membership.{in_left, in_right, in_append, map_in, in_map, concat_map_in, in_concat_map, in_up_from, up_from_in, length_up_from, get_or_run}
use Rattle.lists.proofs.Once.{once_append, once_map, once_up_from, length_within}
use Rattle.lists.proofs.Keys.{in_key, key_in, length_key}
use Rattle.lists.proofs.Distinct.{in_distinct, distinct_in, once_distinct}
use Rattle.lists.proofs.Decide.{computed, dec_each, dec_below}
use Rattle.soundness.specs.Sound.{corner}
use Rattle.soundness.proofs.CellParts.{Within, dimensions, every, once_part, size, power}

-- a cell of a topology
pub record CellOf (t : Topology) : Type 0 where
  pub kind : Kind
  pub cell : List ℕ
  pub listed : In cell (cells_of t kind)

-- the fine vertex of a part of a cell, and child number i
abbrev pub fine : Topology → List ℕ → List ℕ → ℕ
fine t c p = fine_vertex (parts t) c p

abbrev pub child_at : Topology → Kind → List ℕ → ℕ → List ℕ
child_at t κ c i = child (parts t) κ c i

-- ---- the parts met

pub in_met :
    (t : Topology) (d : ℕ) (y : List ℕ) → In y (met t d) →
    (x : CellOf t) × (p : List ℕ) × In p (places x.kind d) × (y ≡ corners_at x.cell p)
unfolding met
in_met t d y h =
    let a = in_concat_map (λ (κ : Kind). concat_map (λ (c : List ℕ). map (corners_at c) (places κ d)) (cells_of t κ)) kinds y h in
    let b = in_concat_map (λ (c : List ℕ). map (corners_at c) (places a.0 d)) (cells_of t a.0) y a.2 in
    let c = in_map (corners_at b.0) (places a.0 d) y b.2 in
    (record { kind = a.0; cell = b.0; listed = b.1 }, c.0, c.1, c.2)

pub met_in_lem : (t : Topology) (d : ℕ) (x : CellOf t) (p : List ℕ) → In p (places x.kind d) → In (corners_at x.cell p) (met t d)
unfolding met
met_in_lem t d x p h =
    concat_map_in (λ (κ : Kind). concat_map (λ (c : List ℕ). map (corners_at c) (places κ d)) (cells_of t κ)) kinds x.kind
    (corners_at x.cell p) (every x.kind)
    (concat_map_in (λ (c : List ℕ). map (corners_at c) (places x.kind d)) (cells_of t x.kind) x.cell (corners_at x.cell p) x.listed
    (map_in (corners_at x.cell) (places x.kind d) p h))

pub in_parts :
    (t : Topology) (d : ℕ) (y : Key) → In y (distinct_parts t d) →
    (x : CellOf t) × (p : List ℕ) × In p (places x.kind d) × (y ≡ key_at x.cell p)
unfolding distinct_parts key_at
in_parts t d y h =
    let a = in_map key_of (met t d) y (in_distinct (map key_of (met t d)) y h) in
    let b = in_met t d a.0 a.1 in
    (b.0, b.1, b.2, a.2 ∙ ap key_of b.3)

pub parts_in : (t : Topology) (d : ℕ) (x : CellOf t) (p : List ℕ) → In p (places x.kind d) → In (key_at x.cell p) (distinct_parts t d)
unfolding distinct_parts key_at
parts_in t d x p h = distinct_in (map key_of (met t d)) (key_at x.cell p) (map_in key_of (met t d) (corners_at x.cell p) (met_in_lem t d x p h))

-- ---- the members and the size of a part

pub in_part : (c p : List ℕ) (z : ℕ) → In z (key_at c p) → (j : ℕ) × In j p × (z ≡ corner c j)
unfolding key_at corners_at
in_part c p z h = in_map (corner c) p z (in_key (corners_at c p) z h)

pub part_in : (c p : List ℕ) (j : ℕ) → In j p → In (corner c j) (key_at c p)
unfolding key_at corners_at
part_in c p j h = key_in (corners_at c p) (corner c j) (map_in (corner c) p j h)

pub length_corners : (c p : List ℕ) → length (corners_at c p) ≡ length p
unfolding corners_at
length_corners c p = length-map p (corner c)

pub length_part : (c p : List ℕ) → length (key_at c p) ≡ length p
unfolding key_at
length_part c p = length_key (corners_at c p) ∙ length_corners c p

pub one_key : (c : List ℕ) (j : ℕ) → key_at c (j ∷ []) ≡ corner c j ∷ []
unfolding key_at corners_at key_of insert
one_key c j = refl

pub inside_length : (κ : Kind) (q r : List ℕ) → In q (cell_parts κ) → Within q r → length q ≤ length r
inside_length κ q r i h = length_within q r (once_part κ q i) h

pub inside_self : (r : List ℕ) → Within r r
inside_self r j i = i

-- ---- a cell with as many corners as its kind

pub whole_below : (κ : Kind) (j : ℕ) → In j (whole κ) → j < corners κ
unfolding whole
whole_below κ j i = omega (arith, in_up_from 0 (corners κ) j i)

pub below_whole : (κ : Kind) (j : ℕ) → j < corners κ → In j (whole κ)
unfolding whole
below_whole κ j l = up_from_in 0 (corners κ) j zero-le (omega arith)

pub length_whole : (κ : Kind) → length (whole κ) ≡ corners κ
unfolding whole
length_whole κ = length_up_from 0 (corners κ)

-- all its corners are the cell itself
pub corners_whole : (κ : Kind) (c : List ℕ) → length c ≡ corners κ → corners_at c (whole κ) ≡ c
unfolding corners_at whole
corners_whole κ c e =
    ext_get_or 0 (corners_at c (whole κ)) c (length_corners c (whole κ) ∙ length_whole κ ∙ sym e)
    (λ i l.
    let h : i < corners κ = subst (λ (n : ℕ). i < n) (length_corners c (whole κ) ∙ length_whole κ) l in
    get_or_run (corner c) 0 0 (corners κ) i h ∙ ap (corner c) (zero-add i))

pub key_whole : (κ : Kind) (c : List ℕ) → length c ≡ corners κ → key_at c (whole κ) ≡ key_of c
unfolding key_at
key_whole κ c e = ap key_of (corners_whole κ c e)

-- ---- the distinct edges, faces and hexes

pub once_parts_of : (t : Topology) (d : ℕ) → Once (distinct_parts t d)
unfolding distinct_parts
once_parts_of t d = once_distinct (map key_of (met t d))

pub part_size : (t : Topology) (d : ℕ) → In d dimensions → (y : Key) → In y (distinct_parts t d) → length y ≡ 2 ^ d
part_size t d i y h = let a = in_parts t d y h in ap length a.3 ∙ length_part a.0.cell a.1 ∙ size a.0.kind d i a.1 a.2

-- dimensions from 1 on
abbrev pub upper : List ℕ
upper = 1 ∷ 2 ∷ 3 ∷ []

upper_above : (d : ℕ) → In d upper → 0 < d
upper_above d i = computed (dec_each (λ (d : ℕ). dec_below 0 d) upper) tt d i

abbrev pub tops : Topology → List Key
tops t = distinct_parts t 1 ++ (distinct_parts t 2 ++ distinct_parts t 3)

pub tops_in : (t : Topology) (d : ℕ) → In d upper → (y : Key) → In y (distinct_parts t d) → In y (tops t)
tops_in t d (inl e) y i = in_left y (distinct_parts t 1) (distinct_parts t 2 ++ distinct_parts t 3) (subst (λ (d : ℕ). In y (distinct_parts t d)) e i)
tops_in t d (inr (inl e)) y i =
    in_right y (distinct_parts t 1) (distinct_parts t 2 ++ distinct_parts t 3)
    (in_left y (distinct_parts t 2) (distinct_parts t 3) (subst (λ (d : ℕ). In y (distinct_parts t d)) e i))
tops_in t d (inr (inr (inr x4))) y i = elim x4 [ ]
tops_in t d (inr (inr (inl e))) y i =
    in_right y (distinct_parts t 1) (distinct_parts t 2 ++ distinct_parts t 3)
    (in_right y (distinct_parts t 2) (distinct_parts t 3) (subst (λ (d : ℕ). In y (distinct_parts t d)) e i))

pub in_tops : (t : Topology) (y : Key) → In y (tops t) → (d : ℕ) × In d upper × In y (distinct_parts t d)
in_tops t y i =
    ⊎_elim
    (λ (j : In y (distinct_parts t 1)). (1, inl refl, j))
    (λ (k : In y (distinct_parts t 2 ++ distinct_parts t 3)).
    ⊎_elim
    (λ (j : In y (distinct_parts t 2)). (2, inr (inl refl), j))
    (λ (j : In y (distinct_parts t 3)). (3, inr (inr (inl refl)), j))
    (in_append y (distinct_parts t 2) (distinct_parts t 3) k))
    (in_append y (distinct_parts t 1) (distinct_parts t 2 ++ distinct_parts t 3) i)

pub once_tops : (t : Topology) → Once (tops t)
once_tops t =
    once_append (distinct_parts t 1) (distinct_parts t 2 ++ distinct_parts t 3) (once_parts_of t 1)
    (once_append (distinct_parts t 2) (distinct_parts t 3) (once_parts_of t 2) (once_parts_of t 3)
    (λ y i j. omega (arith, at 2 (inr (inl refl)) y i, at 3 (inr (inr (inl refl))) y j)))
    (λ y i j.
    ⊎_elim
    (λ (k : In y (distinct_parts t 2)). omega (arith, at 1 (inl refl) y i, at 2 (inr (inl refl)) y k))
    (λ (k : In y (distinct_parts t 3)). omega (arith, at 1 (inl refl) y i, at 3 (inr (inr (inl refl))) y k))
    (in_append y (distinct_parts t 2) (distinct_parts t 3) j))
  where
    at : (d : ℕ) → In d upper → (y : Key) → In y (distinct_parts t d) → length y ≡ 2 ^ d
    at d i y h = part_size t d (inr i) y h

-- no part of a topology is numbered twice
pub once_numbered : (t : Topology) → Once (parts t)
unfolding parts singles
once_numbered t =
    once_append (singles t.vertex_count) (tops t)
    (once_map (λ (v : ℕ). v ∷ []) (up_from 0 t.vertex_count) (once_up_from 0 t.vertex_count) (λ a b i j e. head-eq_of_cons-eq e))
    (once_tops t)
    (λ k i j.
    let a = in_map (λ (v : ℕ). v ∷ []) (up_from 0 t.vertex_count) k i in
    let b = in_tops t k j in
    no_corner b.0 b.1 (sym (part_size t b.0 (inr b.1) k b.2) ∙ ap length a.2))
  where
    no_corner : (d : ℕ) → In d upper → 2 ^ d ≡ 1 → ⊥
    no_corner d i e = let z : d ≡ 0 = power d (inr i) 0 (inl refl) e in omega (arith, upper_above d i)

-- ---- the cells of a split

pub cells_split : (t : Topology) (κ : Kind) → cells_of (split t) κ ≡ concat_map (children (parts t) κ) (cells_of t κ)
unfolding split split_by
cells_split t hex = refl
cells_split t quad = refl
cells_split t segment = refl
cells_split t point = refl

pub length_child : (t : Topology) (κ : Kind) (c : List ℕ) (i : ℕ) → length (child_at t κ c i) ≡ corners κ
unfolding child
length_child t κ c i = length-map (whole κ) _ ∙ length_whole κ

unfoldable pub child_cell : (t : Topology) (x : CellOf t) (i : ℕ) → In i (whole x.kind) → CellOf (split t)
unfolding children
child_cell t x i h = record {
  kind = x.kind;
  cell = child_at t x.kind x.cell i;
  listed =
      subst (λ (l : List (List ℕ)). In (child_at t x.kind x.cell i) l) (sym (cells_split t x.kind))
      (concat_map_in (children (parts t) x.kind) (cells_of t x.kind) x.cell (child_at t x.kind x.cell i) x.listed
      (map_in (child_at t x.kind x.cell) (whole x.kind) i h));
}

-- a cell of the split is a child
pub record Child (t : Topology) (κ : Kind) (c : List ℕ) : Type 0 where
  pub parent : List ℕ
  pub listed : In parent (cells_of t κ)
  pub number : ℕ
  pub placed : In number (whole κ)
  pub is : c ≡ child_at t κ parent number

pub is_child : (t : Topology) (κ : Kind) (c : List ℕ) → In c (cells_of (split t) κ) → Child t κ c
unfolding children
is_child t κ c h =
    let a = in_concat_map (children (parts t) κ) (cells_of t κ) c (subst (λ (l : List (List ℕ)). In c l) (cells_split t κ) h) in
    let b = in_map (child_at t κ a.0) (whole κ) c a.2 in
    record { parent = a.0; listed = a.1; number = b.0; placed = b.1; is = b.2 }
