-- The faces of a split, going round: neighbours are one dimension apart, so faces of one corner set have the same neighbours. Assumes nothing.
use mathlib.Core.Path.{◌≡◌, refl, sym, ap, ◌∙◌, subst}
use mathlib.Core.Logic.{inl, inr, ⊎_elim}
use mathlib.Core.List.{List, [], ◌∷◌, map}
use Prim.Native.Nat.{ℕ, ◌*◌, ◌<◌}
use native.Mathlib.Omega.{arith}
use lib.ListN.{length, get_or, length-map}
use Rattle.rules.specs.Lists.{Key, key_of, same}
use Rattle.rules.specs.Mesh.{quad_edges, cell_parts, smallest, Topology}
use Rattle.rules.specs.Split.{corners_at, key_at, met, parts, split}
use Rattle.rules.specs.Refusals.{ring}
use Rattle.lists.specs.Membership.{In}
use Rattle.lists.proofs.Membership.{map_in, in_map, get_or_in, get_or_map}
use Rattle.lists.proofs.Keys.{same_members, key_swap}
use Rattle.lists.proofs.Decide.{computed, dec_both, dec_each, dec_key, dec_below}
use Rattle.soundness.specs.Sound.{Sound}
use Rattle.soundness.proofs.CellParts.{placed, is_part, size, first, second, Neighbours, neighbours}
use Rattle.soundness.proofs.Cells.{CellOf, fine, in_met, length_part, is_child}
use Rattle.soundness.proofs.FineParts.{fine_eq, corners_child, smallest_parts}

-- ---- going round a face, edge by edge

abbrev Edge : List ℕ → Type 0
Edge e = (e ≡ get_or e 0 0 ∷ get_or e 1 0 ∷ []) × ((get_or e 0 0 < 4) × (get_or e 1 0 < 4))

edge : (e : List ℕ) → In e quad_edges → Edge e
unfolding same
edge =
    computed (dec_each (λ (e : List ℕ). dec_both (dec_key e (get_or e 0 0 ∷ get_or e 1 0 ∷ []))
    (dec_both (dec_below (get_or e 0 0) 4) (dec_below (get_or e 1 0) 4))) quad_edges) tt

-- a step round a face whose corners are f of l
ring_pair :
    (f : List ℕ → ℕ) (l : List (List ℕ)) → length l ≡ 4 → (e : List ℕ) → In e quad_edges →
    key_at (map f l) e ≡ key_of (f (first l e) ∷ f (second l e) ∷ [])
unfolding key_at corners_at
ring_pair f l h e i =
    let v = edge e i in
    ap (λ (z : List ℕ). key_of (corners_at (map f l) z)) v.0
    ∙ ap key_of (two (get_or_map f l (get_or e 0 0) [] 0 (omega (arith, v.1.0))) (get_or_map f l (get_or e 1 0) [] 0 (omega (arith, v.1.1))))
  where
    two : {a b c d : ℕ} → a ≡ b → c ≡ d → ◌≡◌ {A = List ℕ} (a ∷ c ∷ []) (b ∷ d ∷ [])
    two p q = cc

-- a face of the fine mesh as it goes round: the parts of one coarse cell whose fine vertices are its corners
pub record Face (t : Topology) (f : List ℕ) : Type 0 where
  pub at : CellOf t
  pub l : List (List ℕ)
  pub four : length l ≡ 4
  pub all_parts : (q : List ℕ) → In q l → In q (cell_parts at.kind)
  pub near : Neighbours l
  pub is : f ≡ map (fine t at.cell) l

module _ (t : Topology) (s : Sound t) where
  pub face : (f : List ℕ) → In f (met (split t) 2) → Face t f
  face f i =
      let a = in_met (split t) 2 f i in
      let κ = a.0.kind in
      let ps = a.1 in
      let c = is_child t κ a.0.cell a.0.listed in
      let x : CellOf t = record { kind = κ; cell = c.parent; listed = c.listed } in
      let w = placed κ ps (is_part κ 2 (inr (inr (inl refl))) ps a.2) in
      record {
        at = x;
        l = map (smallest κ c.number) ps;
        four = length-map ps (smallest κ c.number) ∙ size κ 2 (inr (inr (inl refl))) ps a.2;
        all_parts = smallest_parts κ c.number ps c.placed w;
        near = neighbours κ c.number c.placed ps a.2;
        is = a.3 ∙ ap (λ (z : List ℕ). corners_at z ps) c.is ∙ corners_child (parts t) κ c.parent c.number ps w;
      }

  -- a part at a corner of a face, in another face of the same corners
  across :
      (f g : List ℕ) (a : Face t f) (b : Face t g) → key_of f ≡ key_of g → (q : List ℕ) → In q a.l →
      (p : List ℕ) × In p b.l × (fine t a.at.cell q ≡ fine t b.at.cell p) × (length q ≡ length p)
  across f g a b e q i =
      let z : In (fine t a.at.cell q) g =
      same_members f g e (fine t a.at.cell q)
      (subst (λ (h : List ℕ). In (fine t a.at.cell q) h) (sym a.is) (map_in (fine t a.at.cell) a.l q i)) in
      let r = in_map (fine t b.at.cell) b.l (fine t a.at.cell q) (subst (λ (h : List ℕ). In (fine t a.at.cell q) h) b.is z) in
      let k = fine_eq t s a.at b.at q r.0 (a.all_parts q i) (b.all_parts r.0 r.1) r.2 in
      (r.0, r.1, r.2, sym (length_part a.at.cell q) ∙ ap length k ∙ length_part b.at.cell r.0)

  -- faces of one corner set have the same neighbours in going round
  pub faces_match : (f g : List ℕ) → Face t f → Face t g → key_of f ≡ key_of g → (k : Key) → In k (ring f) → In k (ring g)
  unfolding ring
  faces_match f g a b e k i =
      let r = in_map (key_at f) quad_edges k i in
      let w = edge r.0 r.1 in
      let u : get_or r.0 0 0 < length a.l = omega (arith, w.1.0, a.four) in
      let v : get_or r.0 1 0 < length a.l = omega (arith, w.1.1, a.four) in
      let A = across f g a b e (first a.l r.0) (get_or_in a.l (get_or r.0 0 0) [] u) in
      let B = across f g a b e (second a.l r.0) (get_or_in a.l (get_or r.0 1 0) [] v) in
      let h : k ≡ key_of (n A.0 ∷ n B.0 ∷ []) =
      r.2 ∙ ap (λ (z : List ℕ). key_at z r.0) a.is ∙ ring_pair (fine t a.at.cell) a.l a.four r.0 r.1
      ∙ ap key_of (two A.2 B.2) in
      ⊎_elim
      (λ (c : 2 * length (first a.l r.0) ≡ length (second a.l r.0)). subst (λ (z : Key). In z (map (key_at g) quad_edges)) (sym h)
      (there A.0 B.0 A.1 B.1 (omega (arith, c, A.3, B.3))))
      (λ (c : 2 * length (second a.l r.0) ≡ length (first a.l r.0)). subst (λ (z : Key). In z (map (key_at g) quad_edges))
      (sym (h ∙ key_swap (n A.0) (n B.0))) (there B.0 A.0 B.1 A.1 (omega (arith, c, A.3, B.3))))
      (a.near.0 r.0 r.1)
    where
      n : List ℕ → ℕ
      n q = fine t b.at.cell q

      two : {a b c d : ℕ} → a ≡ b → c ≡ d → ◌≡◌ {A = List ℕ} (a ∷ c ∷ []) (b ∷ d ∷ [])
      two p q = cc

      -- two corners of g that are one dimension apart are neighbours
      there : (p q : List ℕ) → In p b.l → In q b.l → 2 * length p ≡ length q → In (key_of (n p ∷ n q ∷ [])) (map (key_at g) quad_edges)
      there p q i j c =
          let r = b.near.1 p i q j c in
          let h : key_at g r.0 ≡ key_of (n (first b.l r.0) ∷ n (second b.l r.0) ∷ []) =
          ap (λ (z : List ℕ). key_at z r.0) b.is ∙ ring_pair n b.l b.four r.0 r.1 in
          let o : key_of (n p ∷ n q ∷ []) ≡ key_at g r.0 =
          ⊎_elim
          (λ (w : (p ≡ first b.l r.0) × (q ≡ second b.l r.0)). ap key_of (two (ap n w.0) (ap n w.1)) ∙ sym h)
          (λ (w : (q ≡ first b.l r.0) × (p ≡ second b.l r.0)). key_swap (n p) (n q) ∙ ap key_of (two (ap n w.0) (ap n w.1)) ∙ sym h)
          r.2 in
          subst (λ (z : Key). In z (map (key_at g) quad_edges)) (sym o) (map_in (key_at g) quad_edges r.0 r.1)
