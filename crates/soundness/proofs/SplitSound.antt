-- The split of a sound topology is sound. Assumes nothing.
use mathlib.Core.Path.{◌≡◌, sym, ap, ◌∙◌, subst}
use mathlib.Core.Logic.{inr, ⊎_elim}
use mathlib.Core.List.{List, [], ◌∷◌, map, head-eq_of_cons-eq}
use Prim.Native.Nat.{ℕ, ◌<◌}
use native.Mathlib.Omega.{arith}
use lib.ListN.{length, get_or}
use Rattle.rules.specs.Lists.{up_from, Key, key_of, index_of}
use Rattle.rules.specs.Mesh.{Kind, whole, singles, cell_parts, smallest, Topology, cells_of}
use Rattle.rules.specs.Split.{key_at, parts, fine_vertex, children, split_by, split}
use Rattle.lists.specs.Membership.{In, Once}
use Rattle.lists.proofs.Membership.{in_append, in_map, in_up_from, get_or_in}
use Rattle.lists.proofs.Once.{once_map, once_inj, once_source, once_concat_map}
use Rattle.lists.proofs.Distinct.{index_below, index_at}
use Rattle.soundness.specs.Sound.{corner, Held, Sound}
use Rattle.soundness.proofs.CellParts.{placed, is_part, smallest_part, reached, whole_in, corner_in, whole_child, once_whole}
use Rattle.soundness.proofs.Cells.{CellOf, fine, child_at, in_parts, one_key, key_whole, tops, in_tops, once_numbered, cells_split, length_child, child_cell, is_child}
use Rattle.soundness.proofs.FineParts.{part_known, fine_eq, key_inj, fine_key, corner_child, child_key}
use Rattle.soundness.proofs.SharedParts.{ends}
use Rattle.soundness.proofs.FineFaces.{face, faces_match}

module _ (t : Topology) (s : Sound t) where
  -- ---- the corners of a child decide its parent and its number

  whole_key : (x : CellOf t) (i : ℕ) → In i (whole x.kind) → key_of (child_at t x.kind x.cell i) ≡ fine_key t x (i ∷ []) (whole x.kind)
  whole_key x i h =
      let w = whole_child x.kind i h in
      sym (key_whole x.kind (child_at t x.kind x.cell i) (length_child t x.kind x.cell i))
      ∙ child_key t s x i (whole x.kind) (i ∷ []) (whole x.kind) (λ j k. k) w.0 w.1

  module _ (κ : Kind) where
    child_apart :
        (c b : List ℕ) → In c (cells_of t κ) → In b (cells_of t κ) → (i j : ℕ) → In i (whole κ) → In j (whole κ) →
        key_of (child_at t κ c i) ≡ key_of (child_at t κ b j) → (c ≡ b) × (i ≡ j)
    child_apart c b ci bi i j h k e =
        let x : CellOf t = record { kind = κ; cell = c; listed = ci } in
        let y : CellOf t = record { kind = κ; cell = b; listed = bi } in
        let v = corner_in κ i h in
        let w = corner_in κ j k in
        let z =
        ends t s x y (i ∷ []) (whole κ) (j ∷ []) (whole κ) v (whole_in κ) (placed κ (i ∷ []) v) w (whole_in κ) (placed κ (j ∷ []) w)
        (sym (whole_key x i h) ∙ e ∙ whole_key y j k) in
        let p : c ≡ b =
        once_inj key_of (cells_of t κ) (s.cells_distinct κ) c b ci bi
        (sym (key_whole κ c (s.sized κ c ci)) ∙ z.1 ∙ key_whole κ b (s.sized κ b bi)) in
        let q : i ∷ [] ≡ j ∷ [] = key_inj t s x (i ∷ []) (j ∷ []) v w (z.0 ∙ ap (λ (d : List ℕ). key_at d (j ∷ [])) (sym p)) in
        (p, head-eq_of_cons-eq q)

    children_apart : Once (map key_of (cells_of (split t) κ))
    unfolding children
    children_apart =
        once_map key_of (cells_of (split t) κ)
        (subst Once (sym (cells_split t κ))
        (once_concat_map (children (parts t) κ) (cells_of t κ) (once_source key_of (cells_of t κ) (s.cells_distinct κ))
        (λ c ci. once_map (child_at t κ c) (whole κ) (once_whole κ) (λ i j h k e. (child_apart c c ci ci i j h k (ap key_of e)).1))
        (λ c b z ci bi zc zb.
        let p = in_map (child_at t κ c) (whole κ) z zc in
        let q = in_map (child_at t κ b) (whole κ) z zb in
        (child_apart c b ci bi p.0 q.0 p.1 q.1 (ap key_of (sym p.2 ∙ q.2))).0)))
        (λ c b ci bi e.
        let p = is_child t κ c ci in
        let q = is_child t κ b bi in
        let z =
        child_apart p.parent q.parent p.listed q.listed p.number q.number p.placed q.placed
        (ap key_of (sym p.is) ∙ e ∙ ap key_of q.is) in
        p.is ∙ ap (λ (d : List ℕ). child_at t κ d p.number) z.0 ∙ ap (child_at t κ q.parent) z.1 ∙ sym q.is)

  -- ---- each fine vertex is in a cell

  -- a part of the topology is a part of one of its cells
  pub part_of : (k : Key) → In k (parts t) → (x : CellOf t) × (p : List ℕ) × In p (cell_parts x.kind) × (k ≡ key_at x.cell p)
  unfolding parts singles
  part_of k i =
      ⊎_elim
      (λ (j : In k (singles t.vertex_count)).
      let a = in_map (λ (v : ℕ). v ∷ []) (up_from 0 t.vertex_count) k j in
      let h = s.held a.0 (omega (arith, in_up_from 0 t.vertex_count a.0 a.1)) in (
        record { kind = h.kind; cell = h.cell; listed = h.listed },
        h.place ∷ [],
        corner_in h.kind h.place h.placed,
        a.2 ∙ ap (λ (v : ℕ). v ∷ []) h.is ∙ sym (one_key h.cell h.place),
      ))
      (λ (j : In k (tops t)).
      let a = in_tops t k j in
      let b = in_parts t a.0 k a.2 in
      (b.0, b.1, is_part b.0.kind a.0 (inr a.1) b.1 b.2, b.3))
      (in_append k (singles t.vertex_count) (tops t) i)

  held_again : (v : ℕ) → v < length (parts t) → Held (split t) v
  unfolding child_cell fine_vertex
  held_again v l =
      let a = part_of (get_or (parts t) v []) (get_or_in (parts t) v [] l) in
      let x = a.0 in
      let r = reached x.kind a.1 a.2 in
      let j = r.2 in
      let c = child_cell t x r.0 r.1 in
      record {
        kind = c.kind;
        cell = c.cell;
        place = j.0;
        listed = c.listed;
        placed = j.1;
        is =
            sym (index_at (parts t) (once_numbered t) v l) ∙ ap (λ (z : Key). index_of z (parts t)) (a.3 ∙ ap (key_at x.cell) (sym j.2))
            ∙ sym (corner_child (parts t) x.kind x.cell r.0 j.0 j.1);
      }

  -- ---- corners of fine cells

  corner_is :
      (κ : Kind) (c : List ℕ) (i : In c (cells_of (split t) κ)) (j : ℕ) → In j (whole κ) →
      corner c j ≡ fine t (is_child t κ c i).parent (smallest κ (is_child t κ c i).number j)
  corner_is κ c i j h =
      let a = is_child t κ c i in
      ap (λ (z : List ℕ). corner z j) a.is ∙ corner_child (parts t) κ a.parent a.number j h

  pub split_sound : Sound (split t)
  unfolding split split_by fine_vertex
  split_sound = record {
    sized = λ κ c i. let a = is_child t κ c i in ap length a.is ∙ length_child t κ a.parent a.number;
    known = λ κ c i j h.
        let a = is_child t κ c i in
        let x : CellOf t = record { kind = κ; cell = a.parent; listed = a.listed } in
        let q = smallest κ a.number j in
        let l : index_of (key_at a.parent q) (parts t) < length (parts t) =
        index_below (key_at a.parent q) (parts t) (part_known t s x q (smallest_part κ a.number a.placed j h)) in
        subst (λ (n : ℕ). n < length (parts t)) (sym (corner_is κ c i j h)) l;
    corners_distinct = λ κ c i j k h g e.
        let a = is_child t κ c i in
        let x : CellOf t = record { kind = κ; cell = a.parent; listed = a.listed } in
        let n = a.number in
        let p = smallest_part κ n a.placed j h in
        let q = smallest_part κ n a.placed k g in
        once_inj (smallest κ n) (whole κ) (whole_child κ n a.placed).0 j k h g
        (key_inj t s x (smallest κ n j) (smallest κ n k) p q
        (fine_eq t s x x (smallest κ n j) (smallest κ n k) p q (sym (corner_is κ c i j h) ∙ e ∙ corner_is κ c i k g)));
    cells_distinct = λ κ. children_apart κ;
    matched = λ f g i j e k h. faces_match t s f g (face t s f i) (face t s g j) e k h;
    held = held_again;
  }
