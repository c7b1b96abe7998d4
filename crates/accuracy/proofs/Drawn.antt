-- A fine vertex of a sound mesh draws on the corners of the parents of its counted cells, and on no other vertex.
use mathlib.Core.Path.{◌≡◌, refl, sym, ap, ◌∙◌, subst}
use mathlib.Core.Bool.{Bool, true, ◌&&◌}
use mathlib.Core.Logic.{◌↔◌, ⊎_elim}
use mathlib.Core.List.{List, [], ◌∷◌, map}
use Prim.Native.Nat.{ℕ, ◌/◌, ◌<◌}
use native.Mathlib.Omega.{arith}
use borrow.Author.Tests.{eqb-true, eq-eqb}
use lib.ListN.{length, get_or}
use lib.Dec.{eqb}
use Rattle.rules.specs.Lists.{any, keep, Each, concat, concat_map, has, Key, key_of}
use Rattle.rules.specs.Mesh.{Kind, hex, quad, segment, point, kinds, dimension, whole, smallest, Topology, cells_of}
use Rattle.rules.specs.Split.{key_at, parts, fine_vertex, child, children, split}
use Rattle.rules.specs.Means.{Draw, Mean, mean_of}
use Rattle.rules.specs.Averaging.{rank, counted, eighths, cell_draws, mean_at, means}
use Rattle.rules.specs.Accuracy.{draws_on}
use Rattle.lists.specs.Membership.{In}
use Rattle.lists.proofs.Membership.{map_in, in_map, keep_in, in_keep, concat_in, in_concat, concat_map_in, in_concat_map, get_or_in}
use Rattle.lists.proofs.Each.{each_in}
use Rattle.lists.proofs.Tests.{and_both, both_and, any_in, in_any}
use Rattle.lists.proofs.Keys.{key_in}
use Rattle.lists.proofs.Distinct.{at_index}
use Rattle.soundness.specs.Sound.{Sound}
use Rattle.soundness.proofs.CellParts.{every, placed, whole_in, smallest_part, whole_child, between_in}
use Rattle.soundness.proofs.Cells.{CellOf, fine, child_at, in_part, key_whole, whole_below, cells_split, is_child}
use Rattle.soundness.proofs.FineParts.{part_known}
use Rattle.accuracy.proofs.Counted.{ranked, counted_in}
use Rattle.accuracy.proofs.Means.{mean_is}

-- ---- the draws of a mean, of a fine cell, of a split position

abbrev pub vertex_of : Draw → ℕ
vertex_of d = d.vertex

-- a mean draws on u through a corner g of a counted cell, whose split position draws on u
pub record Through (numbered : List Key) (cells : List (List ℕ)) (u : ℕ) : Type 0 where
  pub cell : List ℕ
  pub listed : In cell cells
  pub at : ℕ
  pub cornered : In at cell
  pub drawn : In u (get_or numbered at [])

module _ (numbered : List Key) where
  draw : ℕ → ℕ → Draw
  draw g u = record { vertex = u; weight = 8 / length (get_or numbered g []) }

  through : (cells : List (List ℕ)) (u : ℕ) → In u (map vertex_of (concat_map (cell_draws numbered) cells)) ↔ Through numbered cells u
  unfolding cell_draws eighths draw
  through cells u = (
    λ i.
        let d = in_map vertex_of (concat_map (cell_draws numbered) cells) u i in
        let c = in_concat_map (cell_draws numbered) cells d.0 d.1 in
        let g = in_concat_map (λ (g : ℕ). eighths (get_or numbered g [])) c.0 d.0 c.2 in
        let w = in_map (draw g.0) (get_or numbered g.0 []) d.0 g.2 in
        record {
          cell = c.0;
          listed = c.1;
          at = g.0;
          cornered = g.1;
          drawn = subst (λ (v : ℕ). In v (get_or numbered g.0 [])) (sym (d.2 ∙ ap vertex_of w.2)) w.1;
        },
    λ r.
        let d = draw r.at u in
        map_in vertex_of (concat_map (cell_draws numbered) cells) d
        (concat_map_in (cell_draws numbered) cells r.cell d r.listed
        (concat_map_in (λ (g : ℕ). eighths (get_or numbered g [])) r.cell r.at d r.cornered
        (map_in (draw r.at) (get_or numbered r.at []) u r.drawn))),
  )

-- ---- the corners of child i of a cell: parts of the parent, one of them the whole parent

module _ (t : Topology) (s : Sound t) (x : CellOf t) (i : ℕ) (hi : In i (whole x.kind)) where
  -- the part whose fine vertex is corner j
  child_part :
      (j : ℕ) → In j (whole x.kind) →
      get_or (parts t) (fine t x.cell (smallest x.kind i j)) [] ≡ key_at x.cell (smallest x.kind i j)
  unfolding fine_vertex
  child_part j hj =
      let p = smallest x.kind i j in at_index (key_at x.cell p) (parts t) (part_known t s x p (smallest_part x.kind i hi j hj))

  child_drawn : (g : ℕ) → In g (child_at t x.kind x.cell i) → (u : ℕ) → In u (get_or (parts t) g []) → In u x.cell
  unfolding child
  child_drawn g ig u iu =
      let κ = x.kind in
      let j = in_map (λ (j : ℕ). fine t x.cell (smallest κ i j)) (whole κ) g ig in
      let e : get_or (parts t) g [] ≡ key_at x.cell (smallest κ i j.0) = ap (λ (f : ℕ). get_or (parts t) f []) j.2 ∙ child_part j.0 j.1 in
      let k = in_part x.cell (smallest κ i j.0) u (subst (λ (p : Key). In u p) e iu) in
      let w = placed κ (smallest κ i j.0) (smallest_part κ i hi j.0 j.1) k.0 k.1 in
      let l : k.0 < length x.cell = omega (arith, whole_below κ k.0 w, s.sized κ x.cell x.listed) in
      subst (λ (v : ℕ). In v x.cell) (sym k.2) (get_or_in x.cell k.0 0 l)

  drawn_child : (u : ℕ) → In u x.cell → (g : ℕ) × In g (child_at t x.kind x.cell i) × In u (get_or (parts t) g [])
  unfolding child
  drawn_child u iu =
      let κ = x.kind in
      let all = whole κ in
      let centre = between_in κ (i ∷ []) all all (whole_in κ) (λ j k. ⊎_elim (λ (e : j ≡ i). rw e hi) (λ (z : ⊥). absurd z) k) (λ j k. k) in
      let j = in_map (smallest κ i) all all ((whole_child κ i hi).1.1 all centre) in
      let e : key_of x.cell ≡ get_or (parts t) (fine t x.cell (smallest κ i j.0)) [] =
      sym (child_part j.0 j.1 ∙ ap (key_at x.cell) (sym j.2) ∙ key_whole κ x.cell (s.sized κ x.cell x.listed)) in (
        fine t x.cell (smallest κ i j.0),
        map_in (λ (j : ℕ). fine t x.cell (smallest κ i j)) all j.0 j.1,
        subst (λ (p : Key). In u p) e (key_in x.cell u iu),
      )

-- ---- the theorem

-- a dimension is that of one kind
abbrev kind_of : ℕ → Kind
kind_of d = get_or (point ∷ segment ∷ quad ∷ []) d hex

kind_of_lem : (κ : Kind) → kind_of (dimension κ) ≡ κ
kind_of_lem hex = refl
kind_of_lem quad = refl
kind_of_lem segment = refl
kind_of_lem point = refl

same_kind : (κ ι : Kind) → dimension κ ≡ dimension ι → κ ≡ ι
same_kind κ ι e = sym (kind_of_lem κ) ∙ ap kind_of e ∙ kind_of_lem ι

-- the test of `draws_on`: a child of the cell is counted in the valence of f
abbrev is_drawn : Topology → ℕ → Kind → List ℕ → Bool
is_drawn t f κ cell = eqb (dimension κ) (rank (split t) f) && any (has f) (children (parts t) κ cell)

abbrev drawn_of : Topology → ℕ → Kind → List ℕ
drawn_of t f κ = concat (keep (is_drawn t f κ) (cells_of t κ))

module _ (t : Topology) (s : Sound t) (f : ℕ) (l : f < (split t).vertex_count) where
  -- the vertices that the mean of f draws on
  abbrev drawn : List ℕ
  drawn = map vertex_of (mean_of (means t) f).draws

  κ : Kind
  κ = (ranked (split t) f).kind

  draws_are : drawn ≡ map vertex_of (concat_map (cell_draws (parts t)) (counted (split t) f).cells)
  unfolding mean_at
  draws_are = ap (λ (m : Mean). map vertex_of m.draws) (mean_is t f l)

  drawn_listed : (u : ℕ) → In u drawn → In u (draws_on t f)
  unfolding draws_on κ rank children
  drawn_listed u i =
      let c = counted (split t) f in
      let r = (through (parts t) c.cells u).0 (subst (λ (us : List ℕ). In u us) draws_are i) in
      let h = (counted_in (split t) f r.cell).0 r.listed in
      let p = is_child t κ r.cell h.0 in
      let x : CellOf t = record { kind = κ; cell = p.parent; listed = p.listed } in
      let child : In r.cell (children (parts t) κ p.parent) =
      subst (λ (cell : List ℕ). In cell (children (parts t) κ p.parent)) (sym p.is) (map_in (child_at t κ p.parent) (whole κ) p.number p.placed) in
      let test : is_drawn t f κ p.parent ≡ true =
      both_and _ _ (eq-eqb _ _ (sym (ranked (split t) f).rank)) (in_any (has f) (children (parts t) κ p.parent) r.cell child h.1) in
      concat_map_in (drawn_of t f) kinds κ u (every κ)
      (concat_in (keep (is_drawn t f κ) (cells_of t κ)) p.parent u (keep_in (is_drawn t f κ) (cells_of t κ) p.parent p.listed test)
      (child_drawn t s x p.number p.placed r.at (subst (λ (cell : List ℕ). In r.at cell) p.is r.cornered) u r.drawn))

  listed_drawn : (u : ℕ) → In u (draws_on t f) → In u drawn
  unfolding draws_on κ rank children
  listed_drawn u i =
      let k = in_concat_map (drawn_of t f) kinds u i in
      let ι = k.0 in
      let p = in_concat (keep (is_drawn t f ι) (cells_of t ι)) u k.2 in
      let parent = p.0 in
      let q = in_keep (is_drawn t f ι) (cells_of t ι) parent p.1 in
      let b = and_both _ _ q.1 in
      let held = any_in (has f) (children (parts t) ι parent) b.1 in
      let cell = held.0 in
      let n = in_map (child_at t ι parent) (whole ι) cell held.1 in
      let x : CellOf t = record { kind = ι; cell = parent; listed = q.0 } in
      let g = drawn_child t s x n.0 n.1 u p.2 in
      let one : ι ≡ κ = same_kind ι κ (eqb-true _ _ b.0 ∙ (ranked (split t) f).rank) in
      let counts : In cell (cells_of (split t) ι) =
      subst (λ (cells : List (List ℕ)). In cell cells) (sym (cells_split t ι)) (concat_map_in (children (parts t) ι) (cells_of t ι) parent cell q.0 held.1) in
      subst (λ (us : List ℕ). In u us) (sym draws_are)
      ((through (parts t) (counted (split t) f).cells u).1 (record {
        cell = cell;
        listed = (counted_in (split t) f cell).1 (subst (λ (κ : Kind). In cell (cells_of (split t) κ)) one counts, held.2);
        at = g.0;
        cornered = subst (λ (cell : List ℕ). In g.0 cell) (sym n.2) g.1;
        drawn = g.2;
      }))

  pub drawn_exactly : (u : ℕ) → In u (map vertex_of (mean_of (means t) f).draws) ↔ In u (draws_on t f)
  drawn_exactly u = (drawn_listed u, listed_drawn u)

  -- so what holds of each vertex in the list holds of each that the mean draws on
  pub each_drawn : (P : ℕ → Type 0) → Each P (draws_on t f) ↔ Each (λ (d : Draw). P d.vertex) (mean_of (means t) f).draws
  each_drawn P =
      let draws = (mean_of (means t) f).draws in
      let list = each_in P (draws_on t f) in
      let mean = each_in (λ (d : Draw). P d.vertex) draws in (
        λ e. mean.1 (λ d i. list.0 e d.vertex ((drawn_exactly d.vertex).0 (map_in vertex_of draws d i))),
        λ e. list.1 (λ u i. let d = in_map vertex_of draws u ((drawn_exactly u).1 i) in subst P (sym d.2) (mean.0 e d.0 d.1)),
      )
