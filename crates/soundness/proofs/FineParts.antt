-- The parts of a sound topology's cells and their fine vertices: a part of the fine mesh is all that lies between two parts of one cell.
-- Assumes nothing.
use mathlib.Core.Path.{◌≡◌, sym, ap, ◌∙◌, subst}
use mathlib.Core.Logic.{inl, inr}
use mathlib.Core.List.{List, [], ◌∷◌, ◌++◌, map, map-map}
use Prim.Native.Nat.{ℕ, zero-le}
use native.Mathlib.Nat.{zero-add}
use native.Mathlib.Omega.{arith}
use lib.ListN.{length, get_or}
use Rattle.rules.specs.Lists.{up_from, Key, key_of}
use Rattle.rules.specs.Mesh.{Kind, hex, quad, segment, point, corners, whole, singles, by_dimension, places, cell_parts, smallest, Topology}
use Rattle.rules.specs.Split.{corners_at, key_at, parts, fine_vertex, child}
use Rattle.lists.specs.Membership.{In, Once}
use Rattle.lists.proofs.Membership.{in_left, in_right, map_in, in_map, in_up_from, up_from_in, get_or_run, map_same, map_within}
use Rattle.lists.proofs.Once.{once_map}
use Rattle.lists.proofs.Keys.{key_ext}
use Rattle.lists.proofs.Distinct.{at_index}
use Rattle.soundness.specs.Sound.{corner, Sound}
use Rattle.soundness.proofs.CellParts.{Within, Same, between, dimensions, placed, only, dimension_of_lem, smallest_part, in_between, once_between}
use Rattle.soundness.proofs.Cells.{CellOf, fine, child_at, parts_in, in_part, part_in, length_part, one_key, tops, tops_in}

corner_places : (κ : Kind) (p : List ℕ) → In p (places κ 0) → (j : ℕ) × In j (whole κ) × (p ≡ j ∷ [])
unfolding places by_dimension singles whole
corner_places hex p i = in_map (λ (j : ℕ). j ∷ []) (up_from 0 8) p i
corner_places quad p i = in_map (λ (j : ℕ). j ∷ []) (up_from 0 4) p i
corner_places segment p i = in_map (λ (j : ℕ). j ∷ []) (up_from 0 2) p i
corner_places point p i = in_map (λ (j : ℕ). j ∷ []) (up_from 0 1) p i

pub inside_key : (c p q : List ℕ) → Within p q → (z : ℕ) → In z (key_at c p) → In z (key_at c q)
inside_key c p q h z i =
    let r = in_part c p z i in
    subst (λ (w : ℕ). In w (key_at c q)) (sym r.2) (part_in c q r.0 (h r.0 r.1))

-- ---- a child of a cell, with any numbering

module _ (numbered : List Key) (κ : Kind) (c : List ℕ) where
  pub corner_child : (i j : ℕ) → In j (whole κ) → corner (child numbered κ c i) j ≡ fine_vertex numbered c (smallest κ i j)
  unfolding child whole
  corner_child i j h =
      get_or_run (λ (j : ℕ). fine_vertex numbered c (smallest κ i j)) 0 0 (corners κ) j (omega (arith, in_up_from 0 (corners κ) j h))
      ∙ ap (λ (j : ℕ). fine_vertex numbered c (smallest κ i j)) (zero-add j)

  pub corners_child :
      (i : ℕ) (ps : List ℕ) → ((j : ℕ) → In j ps → In j (whole κ)) →
      corners_at (child numbered κ c i) ps ≡ map (fine_vertex numbered c) (map (smallest κ i) ps)
  unfolding corners_at
  corners_child i ps w =
      map_same (corner (child numbered κ c i)) (λ (j : ℕ). fine_vertex numbered c (smallest κ i j)) ps (λ j h. corner_child i j (w j h))
      ∙ sym (map-map (fine_vertex numbered c) (smallest κ i) ps)

pub smallest_parts :
    (κ : Kind) (i : ℕ) (ps : List ℕ) → In i (whole κ) → ((j : ℕ) → In j ps → In j (whole κ)) → (q : List ℕ) → In q (map (smallest κ i) ps) →
    In q (cell_parts κ)
smallest_parts κ i ps h w q k =
    let r = in_map (smallest κ i) ps q k in
    subst (λ (z : List ℕ). In z (cell_parts κ)) (sym r.2) (smallest_part κ i h r.0 (w r.0 r.1))

-- ---- parts of the fine mesh

-- a part of the fine mesh: the fine vertices of all that lies between two parts of a cell
unfoldable pub fine_key : (t : Topology) → CellOf t → List ℕ → List ℕ → Key
fine_key t x p r = key_of (map (fine t x.cell) (between x.kind p r))

module _ (t : Topology) (s : Sound t) where
  -- ---- one cell: a part is decided by its key

  pub part_known : (x : CellOf t) (p : List ℕ) → In p (cell_parts x.kind) → In (key_at x.cell p) (parts t)
  unfolding parts singles
  part_known x p i = let v = dimension_of_lem x.kind p i in go v.0 v.1 v.2
    where
      go : (d : ℕ) → In d dimensions → In p (places x.kind d) → In (key_at x.cell p) (singles t.vertex_count ++ tops t)
      go d (inl e) j =
          let q = corner_places x.kind p (subst (λ (d : ℕ). In p (places x.kind d)) e j) in
          let v = corner x.cell q.0 in
          let f : key_at x.cell p ≡ v ∷ [] = ap (key_at x.cell) q.2 ∙ one_key x.cell q.0 in
          in_left (key_at x.cell p) (singles t.vertex_count) (tops t)
          (subst (λ (z : Key). In z (singles t.vertex_count)) (sym f)
          (map_in (λ (j : ℕ). j ∷ []) (up_from 0 t.vertex_count) v
          (up_from_in 0 t.vertex_count v zero-le (omega (arith, s.known x.kind x.cell x.listed q.0 q.1)))))
      go d (inr u) j = in_right (key_at x.cell p) (singles t.vertex_count) (tops t) (tops_in t d u (key_at x.cell p) (parts_in t d x p j))

  -- the fine vertex decides the part
  pub fine_eq :
      (x y : CellOf t) (p q : List ℕ) → In p (cell_parts x.kind) → In q (cell_parts y.kind) → fine t x.cell p ≡ fine t y.cell q →
      key_at x.cell p ≡ key_at y.cell q
  unfolding fine_vertex
  fine_eq x y p q i j e =
      sym (at_index (key_at x.cell p) (parts t) (part_known x p i))
      ∙ ap (λ (n : ℕ). get_or (parts t) n []) e
      ∙ at_index (key_at y.cell q) (parts t) (part_known y q j)

  pub key_inside :
      (x : CellOf t) (p q : List ℕ) → In p (cell_parts x.kind) → In q (cell_parts x.kind) →
      ((z : ℕ) → In z (key_at x.cell p) → In z (key_at x.cell q)) → Within p q
  key_inside x p q i j h =
      λ a k.
      let r = in_part x.cell q (corner x.cell a) (h (corner x.cell a) (part_in x.cell p a k)) in
      let e : a ≡ r.0 =
      s.corners_distinct x.kind x.cell x.listed a r.0 (placed x.kind p i a k) (placed x.kind q j r.0 r.1) r.2 in
      subst (λ (w : ℕ). In w q) (sym e) r.1

  pub key_inj :
      (x : CellOf t) (p q : List ℕ) → In p (cell_parts x.kind) → In q (cell_parts x.kind) → key_at x.cell p ≡ key_at x.cell q →
      p ≡ q
  key_inj x p q i j e =
      only x.kind q j p i
      (key_inside x p q i j (λ z k. subst (λ (w : Key). In z w) e k))
      (sym (length_part x.cell p) ∙ ap length e ∙ length_part x.cell q)

  -- two lists of the same places
  pub part_ext :
      (x : CellOf t) (p q : List ℕ) → ((j : ℕ) → In j p → In j (whole x.kind)) → Once p → Once q → Same p q →
      key_at x.cell p ≡ key_at x.cell q
  unfolding key_at corners_at
  part_ext x p q w h k v =
      key_ext (corners_at x.cell p) (corners_at x.cell q)
      (once_map (corner x.cell) p h (λ a b i j e. s.corners_distinct x.kind x.cell x.listed a b (w a i) (w b j) e))
      (once_map (corner x.cell) q k (λ a b i j e. s.corners_distinct x.kind x.cell x.listed a b (w a (v.1 a i)) (w b (v.1 b j)) e))
      (map_within (corner x.cell) p q v.0)
      (map_within (corner x.cell) q p v.1)

  pub once_fine : (x : CellOf t) (l : List (List ℕ)) → ((q : List ℕ) → In q l → In q (cell_parts x.kind)) → Once l → Once (map (fine t x.cell) l)
  once_fine x l w h = once_map (fine t x.cell) l h (λ p q i j e. key_inj x p q (w p i) (w q j) (fine_eq x x p q (w p i) (w q j) e))

  -- a list of the same parts
  pub fine_ext :
      (x : CellOf t) (p r : List ℕ) (l : List (List ℕ)) → Once l → Same l (between x.kind p r) →
      key_of (map (fine t x.cell) l) ≡ fine_key t x p r
  unfolding fine_key
  fine_ext x p r l h v =
      key_ext (map (fine t x.cell) l) (map (fine t x.cell) (between x.kind p r))
      (once_fine x l (λ q i. (in_between x.kind p r q (v.0 q i)).0) h)
      (once_fine x (between x.kind p r) (λ q i. (in_between x.kind p r q i).0) (once_between x.kind p r))
      (map_within (fine t x.cell) l (between x.kind p r) v.0)
      (map_within (fine t x.cell) (between x.kind p r) l v.1)

  -- a list of places that stands for all between p and r
  pub child_key :
      (x : CellOf t) (i : ℕ) (ps p r : List ℕ) → ((j : ℕ) → In j ps → In j (whole x.kind)) → Once (map (smallest x.kind i) ps) →
      Same (map (smallest x.kind i) ps) (between x.kind p r) → key_at (child_at t x.kind x.cell i) ps ≡ fine_key t x p r
  unfolding key_at
  child_key x i ps p r w h v = ap key_of (corners_child (parts t) x.kind x.cell i ps w) ∙ fine_ext x p r (map (smallest x.kind i) ps) h v
