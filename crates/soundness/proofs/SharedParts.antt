-- A part of the fine mesh, taken in two cells: it may be taken in any cell that has its upper end, and it decides its two ends.
-- Assumes nothing.
use mathlib.Core.Path.{◌≡◌, refl, sym, ap, ◌∙◌, subst}
use mathlib.Core.Logic.{inl, inr, ⊎_elim}
use mathlib.Core.List.{List, [], ◌∷◌, map, map-map}
use Prim.Native.Nat.{ℕ, ◌^◌, ◌≤◌, ◌<◌}
use native.Mathlib.Omega.{arith}
use lib.ListN.{length}
use Rattle.rules.specs.Lists.{up_from, Key, key_of, index_of}
use Rattle.rules.specs.Mesh.{Kind, whole, quad_edges, places, cell_parts, Topology, cells_of}
use Rattle.rules.specs.Split.{corners_at, key_at, parts, fine_vertex}
use Rattle.rules.specs.Refusals.{ring}
use Rattle.lists.specs.Membership.{In}
use Rattle.lists.proofs.Membership.{map_in, in_map, in_up_from, get_or_map, map_same}
use Rattle.lists.proofs.Once.{once_inj}
use Rattle.lists.proofs.Keys.{same_members, key_ext}
use Rattle.lists.proofs.Decide.{computed, dec_each}
use Rattle.soundness.specs.Sound.{corner, Sound}
use Rattle.soundness.proofs.CellParts.{Within, within?, between, dimensions, placed, once_part, only, is_part, size, Lying, lying, solid, corner_in, step_in, step_once, step_edge, edge_step, in_between, between_in, once_between}
use Rattle.soundness.proofs.Cells.{CellOf, fine, met_in_lem, in_part, part_in, length_part, one_key, inside_length, inside_self, key_whole}
use Rattle.soundness.proofs.FineParts.{inside_key, key_inside, part_ext, fine_eq, fine_key, once_fine}

-- the places of a face's edges are below 4
step_below : (e : List ℕ) → In e quad_edges → (j : ℕ) → In j e → j < 4
unfolding up_from
step_below e i j k = (in_up_from 0 4 j (computed (dec_each (λ (e : List ℕ). within? e (up_from 0 4)) quad_edges) tt e i j k)).1

-- going round: a step of a face, by its corners and by its places
ring_step : (c f : List ℕ) → length f ≡ 4 → (e : List ℕ) → In e quad_edges → key_at (corners_at c f) e ≡ key_at c (corners_at f e)
unfolding key_at corners_at
ring_step c f l e i =
    ap key_of
    (map_same (corner (corners_at c f)) (λ (j : ℕ). corner c (corner f j)) e (λ j k. get_or_map (corner c) f j 0 0 (omega (arith, step_below e i j k)))
    ∙ sym (map-map (corner c) (corner f) e))

keys_of : (c p b q : List ℕ) → key_at c p ≡ key_at b q → key_of (corners_at c p) ≡ key_of (corners_at b q)
unfolding key_at
keys_of c p b q e = e

-- what lies in a part of x, in another cell y that has that part as r
pub record Counterpart (t : Topology) (x y : CellOf t) (r q : List ℕ) : Type 0 where
  pub its : List ℕ
  pub is_part : In its (cell_parts y.kind)
  pub within : Within its r
  pub same_key : key_at x.cell q ≡ key_at y.cell its

module _ (t : Topology) (s : Sound t) where
  -- ---- a part that two cells share: what lies in it in the one has a counterpart in the other

  module _ (x y : CellOf t) (d : ℕ) (di : In d dimensions) (r : List ℕ) (ri : In r (places x.kind d)) (r' : List ℕ) (ri' : In r' (places y.kind d)) (e : key_at x.cell r ≡ key_at y.cell r') where
    shared_corner : (j : ℕ) → In j (whole x.kind) → Within (j ∷ []) r → Counterpart t x y r' (j ∷ [])
    shared_corner j i h =
        let a : In (corner x.cell j) (key_at y.cell r') =
        subst (λ (k : Key). In (corner x.cell j) k) e (part_in x.cell r j (h j (inl refl))) in
        let b = in_part y.cell r' (corner x.cell j) a in
        record {
          its = b.0 ∷ [];
          is_part = corner_in y.kind b.0 (placed y.kind r' (is_part y.kind d di r' ri') b.0 b.1);
          within = λ z k. ⊎_elim (λ (w : z ≡ b.0). subst (λ (v : ℕ). In v r') (sym w) b.1) absurd k;
          same_key = one_key x.cell j ∙ ap (λ (v : ℕ). v ∷ []) b.2 ∙ sym (one_key y.cell b.0);
        }

    shared_hex : d ≡ 3 → (q : List ℕ) → In q (cell_parts x.kind) → Within q r → Counterpart t x y r' q
    shared_hex p q i h =
        let a = solid x.kind r (subst (λ (d : ℕ). In r (places x.kind d)) p ri) in
        let b = solid y.kind r' (subst (λ (d : ℕ). In r' (places y.kind d)) p ri') in
        let k : x.kind ≡ y.kind = a.0 ∙ sym b.0 in
        let w : r ≡ r' = a.1 ∙ ap whole k ∙ sym b.1 in
        let c : x.cell ≡ y.cell =
        once_inj key_of (cells_of t y.kind) (s.cells_distinct y.kind) x.cell y.cell
        (subst (λ (κ : Kind). In x.cell (cells_of t κ)) k x.listed) y.listed
        (sym (key_whole x.kind x.cell (s.sized x.kind x.cell x.listed)) ∙ ap (key_at x.cell) (sym a.1) ∙ e
        ∙ ap (key_at y.cell) b.1
        ∙ key_whole y.kind y.cell (s.sized y.kind y.cell y.listed)) in
        record {
          its = q;
          is_part = subst (λ (κ : Kind). In q (cell_parts κ)) k i;
          within = subst (λ (z : List ℕ). Within q z) w h;
          same_key = ap (λ (c : List ℕ). key_at c q) c;
        }

    shared_edge : d ≡ 2 → (q : List ℕ) → In q (cell_parts x.kind) → Within q r → length q ≡ 2 → Counterpart t x y r' q
    unfolding ring
    shared_edge p q i h l =
        let rf = subst (λ (d : ℕ). In r (places x.kind d)) p ri in
        let rf' = subst (λ (d : ℕ). In r' (places y.kind d)) p ri' in
        let l₄ : length r ≡ 4 = size x.kind d di r ri ∙ ap (λ (d : ℕ). 2 ^ d) p in
        let l₄' : length r' ≡ 4 = size y.kind d di r' ri' ∙ ap (λ (d : ℕ). 2 ^ d) p in
        let a = edge_step x.kind r rf q i h l in
        let k₁ : key_at x.cell q ≡ key_at (corners_at x.cell r) a.0 =
        part_ext t s x q (corners_at r a.0) (placed x.kind q i) (once_part x.kind q i) (step_once x.kind r rf a.0 a.1) a.2
        ∙ sym (ring_step x.cell r l₄ a.0 a.1) in
        let k₂ : In (key_at x.cell q) (map (key_at (corners_at y.cell r')) quad_edges) =
        s.matched (corners_at x.cell r) (corners_at y.cell r') (met_in_lem t 2 x r rf) (met_in_lem t 2 y r' rf')
        (keys_of x.cell r y.cell r' e) (key_at x.cell q)
        (subst (λ (z : Key). In z (map (key_at (corners_at x.cell r)) quad_edges)) (sym k₁)
        (map_in (key_at (corners_at x.cell r)) quad_edges a.0 a.1)) in
        let b = in_map (key_at (corners_at y.cell r')) quad_edges (key_at x.cell q) k₂ in
        let c = step_edge y.kind r' rf' b.0 b.1 in
        let w = placed y.kind r' (is_part y.kind d di r' ri') in
        record {
          its = c.0;
          is_part = c.1;
          within = λ j u. step_in y.kind r' rf' b.0 b.1 j (c.2.1 j u);
          same_key =
              b.2 ∙ ring_step y.cell r' l₄' b.0 b.1
              ∙ part_ext t s y (corners_at r' b.0) c.0 (λ j u. w j (step_in y.kind r' rf' b.0 b.1 j u))
              (step_once y.kind r' rf' b.0 b.1) (once_part y.kind c.0 c.1) c.2;
        }

    pub counterpart : (q : List ℕ) → In q (cell_parts x.kind) → Within q r → Counterpart t x y r' q
    counterpart q i h = go (lying x.kind d di r ri q i h)
      where
        go : Lying x.kind d r q → Counterpart t x y r' q
        go (inl p) = record { its = r'; is_part = is_part y.kind d di r' ri'; within = inside_self r'; same_key = ap (key_at x.cell) p ∙ e }
        go (inr (inl c)) =
            subst (λ (z : List ℕ). Counterpart t x y r' z) (sym c.2)
            (shared_corner c.0 c.1 (subst (λ (z : List ℕ). Within z r) c.2 h))
        go (inr (inr (inl p))) = shared_edge p.0 q i h p.1
        go (inr (inr (inr p))) = shared_hex p q i h

    -- all between p and the shared part is there in the other cell
    between_shared :
        (p p' : List ℕ) → In p' (cell_parts y.kind) → key_at x.cell p ≡ key_at y.cell p' → (z : ℕ) →
        In z (map (fine t x.cell) (between x.kind p r)) → In z (map (fine t y.cell) (between y.kind p' r'))
    unfolding fine_vertex
    between_shared p p' pi' k z i =
        let a = in_map (fine t x.cell) (between x.kind p r) z i in
        let b = in_between x.kind p r a.0 a.1 in
        let c = counterpart a.0 b.0 b.2 in
        let n : Within p' c.its =
        key_inside t s y p' c.its pi' c.is_part
        (λ v j. subst (λ (w : Key). In v w) c.same_key (inside_key x.cell p a.0 b.1 v (subst (λ (w : Key). In v w) (sym k) j))) in
        subst (λ (w : ℕ). In w (map (fine t y.cell) (between y.kind p' r')))
        (sym (a.2 ∙ ap (λ (w : Key). index_of w (parts t)) c.same_key))
        (map_in (fine t y.cell) (between y.kind p' r') c.its (between_in y.kind p' r' c.its c.is_part n c.within))

  -- a part of the fine mesh may be taken in any cell that has its upper end
  pub transfer :
      (x y : CellOf t) (d : ℕ) → In d dimensions → (r : List ℕ) → In r (places x.kind d) → (r' : List ℕ) → In r' (places y.kind d) →
      key_at x.cell r ≡ key_at y.cell r' → (p : List ℕ) → In p (cell_parts x.kind) → Within p r →
      (c : Counterpart t x y r' p) × (fine_key t x p r ≡ fine_key t y c.its r')
  unfolding fine_key
  transfer x y d di r ri r' ri' e p i h =
      let c = counterpart x y d di r ri r' ri' e p i h in (
        c,
        key_ext (map (fine t x.cell) (between x.kind p r)) (map (fine t y.cell) (between y.kind c.its r'))
            (once_fine t s x (between x.kind p r) (λ q i. (in_between x.kind p r q i).0) (once_between x.kind p r))
            (once_fine t s y (between y.kind c.its r') (λ q i. (in_between y.kind c.its r' q i).0) (once_between y.kind c.its r'))
            (between_shared x y d di r ri r' ri' e p c.its c.is_part c.same_key)
            (between_shared y x d di r' ri' r ri (sym e) c.its p i (sym c.same_key)),
      )

  -- ---- a part of the fine mesh decides its two ends

  module _ (x y : CellOf t) (p r p' r' : List ℕ) (e : fine_key t x p r ≡ fine_key t y p' r') where
    other : (a : List ℕ) → In a (between x.kind p r) → (b : List ℕ) × In b (between y.kind p' r') × (key_at x.cell a ≡ key_at y.cell b)
    unfolding fine_key
    other a i =
        let z =
        same_members (map (fine t x.cell) (between x.kind p r)) (map (fine t y.cell) (between y.kind p' r')) e
        (fine t x.cell a) (map_in (fine t x.cell) (between x.kind p r) a i) in
        let b = in_map (fine t y.cell) (between y.kind p' r') (fine t x.cell a) z in
        (b.0, b.1, fine_eq t s x y a b.0 (in_between x.kind p r a i).0 (in_between y.kind p' r' b.0 b.1).0 b.2)

    same_length : (a b : List ℕ) → key_at x.cell a ≡ key_at y.cell b → length a ≡ length b
    same_length a b k = sym (length_part x.cell a) ∙ ap length k ∙ length_part y.cell b

    top_le : In r (cell_parts x.kind) → Within p r → length r ≤ length r'
    top_le i h =
        let b = other r (between_in x.kind p r r i h (inside_self r)) in
        let c = in_between y.kind p' r' b.0 b.1 in
        omega (arith, same_length r b.0 b.2, inside_length y.kind b.0 r' c.0 c.2)

    low_le : In p (cell_parts x.kind) → Within p r → In p' (cell_parts y.kind) → length p' ≤ length p
    low_le i h j =
        let b = other p (between_in x.kind p r p i (inside_self p) h) in
        let c = in_between y.kind p' r' b.0 b.1 in
        omega (arith, same_length p b.0 b.2, inside_length y.kind p' b.0 j c.1)

  pub ends :
      (x y : CellOf t) (p r p' r' : List ℕ) → In p (cell_parts x.kind) → In r (cell_parts x.kind) → Within p r →
      In p' (cell_parts y.kind) → In r' (cell_parts y.kind) → Within p' r' → fine_key t x p r ≡ fine_key t y p' r' →
      (key_at x.cell p ≡ key_at y.cell p') × (key_at x.cell r ≡ key_at y.cell r')
  ends x y p r p' r' pi ri h pi' ri' k e =
      let a = other x y p r p' r' e r (between_in x.kind p r r ri h (inside_self r)) in
      let b = in_between y.kind p' r' a.0 a.1 in
      let l : length a.0 ≡ length r' =
      omega (arith, same_length x y p r p' r' e r a.0 a.2, top_le x y p r p' r' e ri h, top_le y x p' r' p r (sym e) ri' k) in
      let f : a.0 ≡ r' = only y.kind r' ri' a.0 b.0 b.2 l in
      let c = other x y p r p' r' e p (between_in x.kind p r p pi (inside_self p) h) in
      let d = in_between y.kind p' r' c.0 c.1 in
      let n : length p' ≡ length c.0 =
      omega (arith, same_length x y p r p' r' e p c.0 c.2, low_le x y p r p' r' e pi h pi', low_le y x p' r' p r (sym e) pi' k pi) in
      let g : p' ≡ c.0 = only y.kind c.0 d.0 p' pi' d.1 n in
      (c.2 ∙ ap (key_at y.cell) (sym g), a.2 ∙ ap (key_at y.cell) f)
