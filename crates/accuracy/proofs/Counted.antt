-- The cells counted for a vertex are the cells of one kind that hold it, and of a sound mesh there is one.
use mathlib.Core.Path.{◌≡◌, refl, sym, subst}
use mathlib.Core.Bool.{true}
use mathlib.Core.Logic.{◌↔◌}
use mathlib.Core.List.{List, [], ◌∷◌}
use Prim.Native.Nat.{ℕ, ◌≤◌, ◌<◌}
use native.Mathlib.Omega.{arith}
use lib.ListN.{length}
use Rattle.rules.specs.Lists.{has}
use Rattle.rules.specs.Mesh.{Kind, hex, quad, segment, point, dimension, Topology, cells_of}
use Rattle.rules.specs.Averaging.{holding, Counted, or_else, counted, rank, valence}
use Rattle.lists.specs.Membership.{In}
use Rattle.lists.proofs.Membership.{get_or_in, in_some, keep_in, in_keep, length_keep}
use Rattle.lists.proofs.Tests.{in_has}
use Rattle.soundness.specs.Sound.{Sound}
use Rattle.soundness.proofs.Cells.{whole_below}

-- the kind of the counted cells
pub record Ranked (t : Topology) (v : ℕ) : Type 0 where
  pub kind : Kind
  pub rank : (counted t v).rank ≡ dimension kind
  pub cells : (counted t v).cells ≡ holding v (cells_of t kind)

or_else_lem :
    (P : Counted → Type 0) (d : ℕ) (xs : List (List ℕ)) (higher : Counted) → P (record { rank = d; cells = xs }) → P higher →
    P (or_else d xs higher)
unfolding or_else
or_else_lem P d [] higher p q = q
or_else_lem P d (x ∷ xs) higher p q = p

pub ranked : (t : Topology) (v : ℕ) → Ranked t v
unfolding counted
ranked t v =
    let P : Counted → Type 0 = λ c. (κ : Kind) × (c.rank ≡ dimension κ) × (c.cells ≡ holding v (cells_of t κ)) in
    let p =
    or_else_lem P (dimension point) (holding v t.points) _ (point, refl, refl)
    (or_else_lem P (dimension segment) (holding v t.segments) _ (segment, refl, refl)
    (or_else_lem P (dimension quad) (holding v t.quads) _ (quad, refl, refl) (hex, refl, refl))) in
    record { kind = p.0; rank = p.1; cells = p.2 }

-- the counted cells are the cells of that kind that hold the vertex
pub counted_in :
    (t : Topology) (v : ℕ) (c : List ℕ) → In c (counted t v).cells ↔ (In c (cells_of t (ranked t v).kind) × (has v c ≡ true))
unfolding holding
counted_in t v c =
    let r = ranked t v in
    let cells = cells_of t r.kind in (
      λ i. in_keep (has v) cells c (subst (λ (cs : List (List ℕ)). In c cs) r.cells i),
      λ h. subst (λ (cs : List (List ℕ)). In c cs) (sym r.cells) (keep_in (has v) cells c h.0 h.1),
    )

-- ---- bounds: a rank is a dimension, and a valence is at most the count of a table

pub rank_below : (t : Topology) (v : ℕ) → rank t v ≤ 3
unfolding rank
rank_below t v = subst (λ (d : ℕ). d ≤ 3) (sym (ranked t v).rank) (at (ranked t v).kind)
  where
    at : (κ : Kind) → dimension κ ≤ 3
    at hex = omega arith
    at quad = omega arith
    at segment = omega arith
    at point = omega arith

pub valence_below : (t : Topology) (v : ℕ) → valence t v ≤ length (cells_of t (ranked t v).kind)
unfolding valence holding
valence_below t v = let r = ranked t v in rw r.cells (length_keep (has v) (cells_of t r.kind))

-- ---- a vertex that is held has a counted cell

at_once : (d : ℕ) (xs : List (List ℕ)) (higher : Counted) → 0 < length xs → 0 < length (or_else d xs higher).cells
unfolding or_else
at_once d [] higher h = absurd (omega arith)
at_once d (x ∷ xs) higher h = h

later : (d : ℕ) (xs : List (List ℕ)) (higher : Counted) → 0 < length higher.cells → 0 < length (or_else d xs higher).cells
unfolding or_else
later d [] higher h = h
later d (x ∷ xs) higher h = omega arith

held_counted : (t : Topology) (v : ℕ) (κ : Kind) → 0 < length (holding v (cells_of t κ)) → 0 < length (counted t v).cells
unfolding counted
held_counted t v point h = at_once 0 _ _ h
held_counted t v segment h = later 0 _ _ (at_once 1 _ _ h)
held_counted t v quad h = later 0 _ _ (later 1 _ _ (at_once 2 _ _ h))
held_counted t v hex h = later 0 _ _ (later 1 _ _ (later 2 _ _ h))

pub counted_some : (t : Topology) → Sound t → (v : ℕ) → v < t.vertex_count → 0 < length (counted t v).cells
unfolding holding
counted_some t s v l =
    let h = s.held v l in
    let n : h.place < length h.cell = omega (arith, whole_below h.kind h.place h.placed, s.sized h.kind h.cell h.listed) in
    let i : In v h.cell = subst (λ (u : ℕ). In u h.cell) (sym h.is) (get_or_in h.cell h.place 0 n) in
    held_counted t v h.kind (in_some (holding v (cells_of t h.kind)) h.cell (keep_in (has v) (cells_of t h.kind) h.cell h.listed (in_has v h.cell i)))
