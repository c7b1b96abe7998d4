-- The numbers of the fine vertices: old vertices under their old numbers, then the distinct edges, then the distinct faces, then the hexes.
-- Assumes nothing.
use mathlib.Core.Path.{◌≡◌, refl, sym, ap, ◌∙◌, subst}
use mathlib.Core.Logic.{inl, inr}
use mathlib.Core.List.{List, [], ◌∷◌, ◌++◌, map, map-map, map-append, map-id, append-nil, head-eq_of_cons-eq}
use Prim.Native.Nat.{ℕ, ◌+◌, ◌^◌, ◌<◌}
use native.Mathlib.Nat.{zero-add}
use native.Mathlib.Omega.{arith}
use lib.ListN.{length, get_or, length-map}
use Rattle.rules.specs.Lists.{any, concat, concat_map, up_from, has, Key, key_of, index_of, distinct}
use Rattle.rules.specs.Mesh.{Kind, hex, quad, segment, point, corners, whole, singles, by_dimension, places, cell_parts, first_holding, smallest, smallest_table, place_of, Topology}
use Rattle.rules.specs.Split.{corners_at, key_at, met, distinct_parts, edges, faces, parts, fine_vertex, child}
use Rattle.lists.specs.Membership.{In}
use Rattle.lists.proofs.Membership.{in_map, map_same, length_up_from, get_or_run, get_or_in, get_or_map}
use Rattle.lists.proofs.Once.{once_map, once_up_from}
use Rattle.lists.proofs.Distinct.{index_at, index_left, index_right, distinct_once}
use Rattle.soundness.specs.Sound.{corner, Sound}
use Rattle.soundness.specs.Numbers.{start, number_of}
use Rattle.soundness.proofs.CellParts.{power, smallest_below}
use Rattle.soundness.proofs.Cells.{CellOf, fine, child_at, parts_in, one_key, whole_below, corners_whole, key_whole, part_size, upper, tops}
use Rattle.soundness.proofs.FineParts.{corner_child}

-- ---- a few parts as tables name them

pub is_hex : In (whole hex) (places hex 3)
unfolding places by_dimension
is_hex = inl refl

by_dimension_lem : (κ : Kind) → cell_parts κ ≡ singles (corners κ) ++ (places κ 1 ++ (places κ 2 ++ places κ 3))
unfolding cell_parts places by_dimension singles up_from concat
by_dimension_lem hex = refl
by_dimension_lem quad = refl
by_dimension_lem segment = refl
by_dimension_lem point = refl

module _ {A : Type 0} where
  concat_map_one : (f : A → Key) (xs : List A) → concat_map (λ (x : A). f x ∷ []) xs ≡ map f xs
  unfolding concat_map
  concat_map_one f [] = refl
  concat_map_one f (x ∷ xs) = ap (λ (l : List Key). f x ∷ l) (concat_map_one f xs)

  concat_map_none : (xs : List A) → concat_map {B = Key} (λ (x : A). []) xs ≡ []
  unfolding concat_map
  concat_map_none [] = refl
  concat_map_none (x ∷ xs) = concat_map_none xs

pub length_singles : (n : ℕ) → length (singles n) ≡ n
unfolding singles
length_singles n = length-map (up_from 0 n) (λ (v : ℕ). v ∷ []) ∙ length_up_from 0 n

-- ---- the children of a cell, from the fine vertices of its parts

-- With any numbering: corner j of child i is the fine vertex of the part whose number stands in row i and column j of the table.
pub child_stored :
    (numbered : List Key) (κ : Kind) (c : List ℕ) (i j : ℕ) → In i (whole κ) → In j (whole κ) →
    corner (child numbered κ c i) j ≡ get_or (map (fine_vertex numbered c) (cell_parts κ)) (place_of (smallest_table κ) i j) 0
unfolding smallest smallest_table whole
child_stored numbered κ c i j h k =
    let n = first_holding i j (cell_parts κ) in
    let row = map (λ (j : ℕ). first_holding i j (cell_parts κ)) (whole κ) in
    let e : get_or (smallest_table κ) i [] ≡ row =
    get_or_run (λ (i : ℕ). map (λ (j : ℕ). first_holding i j (cell_parts κ)) (whole κ)) [] 0 (corners κ) i (whole_below κ i h)
    ∙ ap (λ (i : ℕ). map (λ (j : ℕ). first_holding i j (cell_parts κ)) (whole κ)) (zero-add i) in
    let f : get_or row j 0 ≡ n =
    get_or_run (λ (j : ℕ). first_holding i j (cell_parts κ)) 0 0 (corners κ) j (whole_below κ j k) ∙ ap (λ (j : ℕ). first_holding i j (cell_parts κ)) (zero-add j) in
    corner_child numbered κ c i j k
    ∙ sym (get_or_map (fine_vertex numbered c) (cell_parts κ) n [] 0 (smallest_below κ i h j k))
    ∙ ap (λ (p : ℕ). get_or (map (fine_vertex numbered c) (cell_parts κ)) p 0) (sym (ap (λ (l : List ℕ). get_or l j 0) e ∙ f))

-- ---- old vertices

-- in any topology, the key of a vertex is numbered as the vertex
pub number_vertex : (t : Topology) (v : ℕ) → v < t.vertex_count → index_of (v ∷ []) (parts t) ≡ v
unfolding parts singles
number_vertex t v l =
    let n = length_singles t.vertex_count in
    let e : get_or (singles t.vertex_count) v [] ≡ v ∷ [] =
    get_or_run (λ (v : ℕ). v ∷ []) [] 0 t.vertex_count v l ∙ ap (λ (v : ℕ). v ∷ []) (zero-add v) in
    index_left (v ∷ []) (singles t.vertex_count) (tops t)
    (subst (λ (k : Key). In k (singles t.vertex_count)) e (get_or_in (singles t.vertex_count) v [] (omega arith)))
    ∙ ap (λ (k : Key). index_of k (singles t.vertex_count)) (sym e)
    ∙ index_at (singles t.vertex_count)
    (once_map (λ (v : ℕ). v ∷ []) (up_from 0 t.vertex_count) (once_up_from 0 t.vertex_count) (λ a b p q e. head-eq_of_cons-eq e)) v
    (omega arith)

-- ---- edges, faces and hexes

-- in any topology, a part of dimension d above 0 is numbered by its place among the distinct ones
module _ (t : Topology) (k : Key) (d : ℕ) (di : In d upper) (i : In k (distinct_parts t d)) where
  long : length k ≡ 2 ^ d
  long = part_size t d (inr di) k i

  only : (e : ℕ) → In e upper → In k (distinct_parts t e) → d ≡ e
  only e ei h = power d (inr di) e (inr ei) (sym long ∙ part_size t e (inr ei) k h)

  not_single : In k (singles t.vertex_count) → ⊥
  unfolding singles
  not_single h =
      let a = in_map (λ (v : ℕ). v ∷ []) (up_from 0 t.vertex_count) k h in
      let l : length k ≡ 1 = ap length a.2 in
      no_corner di (power d (inr di) 0 (inl refl) (sym long ∙ l))
    where
      no_corner : In d upper → d ≡ 0 → ⊥
      no_corner (inl e) z = omega arith
      no_corner (inr (inl e)) z = omega arith
      no_corner (inr (inr (inr x4))) z = elim x4 [ ]
      no_corner (inr (inr (inl e))) z = omega arith

  at : index_of k (parts t) ≡ t.vertex_count + index_of k (tops t)
  unfolding parts
  at = index_right k (singles t.vertex_count) (tops t) not_single ∙ ap (λ (z : ℕ). z + index_of k (tops t)) (length_singles t.vertex_count)

  no_edge : (d ≡ 1 → ⊥) → index_of k (tops t) ≡ length (edges t) + index_of k (faces t ++ distinct_parts t 3)
  no_edge h = index_right k (edges t) (faces t ++ distinct_parts t 3) (λ i. h (only 1 (inl refl) i))

  number_at : (e : ℕ) → In e upper → d ≡ e → index_of k (parts t) ≡ start t e + index_of k (distinct_parts t e)
  number_at e (inl r) q =
      subst (λ (e : ℕ). index_of k (parts t) ≡ start t e + index_of k (distinct_parts t e)) (sym r)
      (at ∙ ap (λ (z : ℕ). t.vertex_count + z)
      (index_left k (edges t) (faces t ++ distinct_parts t 3) (subst (λ (e : ℕ). In k (distinct_parts t e)) (q ∙ r) i)))
  number_at e (inr (inl r)) q =
      subst (λ (e : ℕ). index_of k (parts t) ≡ start t e + index_of k (distinct_parts t e)) (sym r)
      (omega (
        arith,
        at,
        no_edge (λ w. omega arith),
        index_left k (faces t) (distinct_parts t 3)
            (subst (λ (e : ℕ). In k (distinct_parts t e)) (q ∙ r) i),
      ))
  number_at e (inr (inr (inr x4))) q = elim x4 [ ]
  number_at e (inr (inr (inl r))) q =
      subst (λ (e : ℕ). index_of k (parts t) ≡ start t e + index_of k (distinct_parts t e)) (sym r)
      (omega (
        arith,
        at,
        no_edge (λ w. omega arith),
        index_right k (faces t) (distinct_parts t 3)
            (λ i. let w : d ≡ 2 = only 2 (inr (inl refl)) i in omega arith),
      ))

  pub number_part : index_of k (parts t) ≡ start t d + index_of k (distinct_parts t d)
  number_part = number_at d di refl

-- the same of a part of a cell
pub fine_upper :
    (t : Topology) (x : CellOf t) (d : ℕ) → In d upper → (p : List ℕ) → In p (places x.kind d) →
    fine t x.cell p ≡ number_of t x.cell d p
unfolding fine_vertex
fine_upper t x d di p pi = number_part t (key_at x.cell p) d di (parts_in t d x p pi)

module _ (t : Topology) (s : Sound t) where
  -- old vertices keep their numbers
  pub fine_corner : (x : CellOf t) (j : ℕ) → In j (whole x.kind) → fine t x.cell (j ∷ []) ≡ corner x.cell j
  unfolding fine_vertex
  fine_corner x j i =
      ap (λ (k : Key). index_of k (parts t)) (one_key x.cell j)
      ∙ number_vertex t (corner x.cell j) (s.known x.kind x.cell x.listed j i)

  -- a point is its own child
  pub point_child : (c : List ℕ) → In c t.points → child_at t point c 0 ≡ c
  unfolding child whole smallest first_holding cell_parts by_dimension singles up_from concat has any corners_at
  point_child c i =
      ap (λ (v : ℕ). v ∷ []) (fine_corner (record { kind = point; cell = c; listed = i }) 0 (inl refl))
      ∙ corners_whole point c (s.sized point c i)

  -- ---- the hexes are numbered as they are listed

  pub hexes_met : met t 3 ≡ t.hexes
  unfolding met places by_dimension concat_map
  hexes_met =
      let a = concat_map_one (λ (c : List ℕ). corners_at c (whole hex)) t.hexes in
      let b = concat_map_none t.quads in
      let c = concat_map_none t.segments in
      let d = concat_map_none t.points in
      rw (a, b, c, d)
      (append-nil (map (λ (c : List ℕ). corners_at c (whole hex)) t.hexes)
      ∙ map_same (λ (c : List ℕ). corners_at c (whole hex)) (λ (c : List ℕ). c) t.hexes (λ c i. corners_whole hex c (s.sized hex c i))
      ∙ map-id t.hexes)

  pub hexes_listed : distinct_parts t 3 ≡ map key_of t.hexes
  unfolding distinct_parts
  hexes_listed = ap (λ (l : List (List ℕ)). distinct (map key_of l)) hexes_met ∙ distinct_once (map key_of t.hexes) (s.cells_distinct hex)

  -- hex number h of the table is number h behind the vertices, the edges and the faces
  pub fine_hex : (h : ℕ) → h < length t.hexes → fine t (get_or t.hexes h []) (whole hex) ≡ start t 3 + h
  fine_hex h l =
      let c = get_or t.hexes h [] in
      let i = get_or_in t.hexes h [] l in
      let n : length (map key_of t.hexes) ≡ length t.hexes = length-map t.hexes key_of in
      let e : get_or (map key_of t.hexes) h [] ≡ key_at c (whole hex) =
      get_or_map key_of t.hexes h [] [] l ∙ sym (key_whole hex c (s.sized hex c i)) in
      fine_upper t (record { kind = hex; cell = c; listed = i }) 3 (inr (inr (inl refl))) (whole hex) is_hex
      ∙ ap (λ (z : ℕ). start t 3 + z)
      (ap (index_of (key_at c (whole hex))) hexes_listed ∙ ap (λ (k : Key). index_of k (map key_of t.hexes)) (sym e)
      ∙ index_at (map key_of t.hexes) (s.cells_distinct hex) h (omega arith))

  -- The fine vertices of a cell, in the order of its parts: its corners, its edges, its faces, its body. This is what a kernel stores.
  pub cell_vertices :
      (x : CellOf t) →
      map (fine t x.cell) (cell_parts x.kind)
      ≡ x.cell ++ (map (number_of t x.cell 1) (places x.kind 1) ++ (map (number_of t x.cell 2) (places x.kind 2) ++ map (number_of t x.cell 3) (places x.kind 3)))
  unfolding singles whole corners_at
  cell_vertices x =
      let κ = x.kind in
      let c = x.cell in
      let f = fine t c in
      ap (map f) (by_dimension_lem κ)
      ∙ map-append f (singles (corners κ)) (places κ 1 ++ (places κ 2 ++ places κ 3))
      ∙ two
      (map-map f (λ (j : ℕ). j ∷ []) (whole κ) ∙ map_same (λ (j : ℕ). f (j ∷ [])) (corner c) (whole κ) (λ j i. fine_corner x j i)
      ∙ corners_whole κ c (s.sized κ c x.listed))
      (map-append f (places κ 1) (places κ 2 ++ places κ 3)
      ∙ two
      (map_same f (number_of t c 1) (places κ 1) (λ p i. fine_upper t x 1 (inl refl) p i))
      (map-append f (places κ 2) (places κ 3)
      ∙ two
      (map_same f (number_of t c 2) (places κ 2) (λ p i. fine_upper t x 2 (inr (inl refl)) p i))
      (map_same f (number_of t c 3) (places κ 3) (λ p i. fine_upper t x 3 (inr (inr (inl refl))) p i))))
    where
      two : {a b c d : List ℕ} → a ≡ b → c ≡ d → a ++ c ≡ b ++ d
      two p q = cc
