-- The pass over a table of cells, by places, is the pass over the list of the cells' children. Assumes nothing.
use mathlib.Core.Path.{◌≡◌, refl, sym, ap, subst, ◌∙◌}
use mathlib.Core.Bool.{Bool, true, false, cond, ◌||◌}
use mathlib.Core.List.{List, [], ◌∷◌, map}
use Prim.Native.Nat.{ℕ, ◌+◌, ◌*◌, ◌/◌, ◌<◌}
use native.Mathlib.Nat.{zero-add}
use lib.ListN.{length, get_or, length-map}
use lib.Dec.{eqb}
use lib.IntN.{pos}
use borrow.Author.Tests.{eqb-true}
use Rattle.rules.specs.Lists.{any, cut, has}
use Rattle.rules.specs.Mesh.{Mesh, Kind, hex, quad, segment, point, corners, whole, smallest, Topology, topology, cells_of}
use Rattle.rules.specs.Split.{key_at, parts, fine_vertex, child, children, split}
use Rattle.rules.specs.Averaging.{cell_draws}
use Rattle.lists.specs.Membership.{In, Once}
use Rattle.lists.proofs.Membership.{get_or_in, in_map, get_or_map, get_or_run, concat_map_is}
use Rattle.lists.proofs.Once.{place_once}
use Rattle.lists.proofs.Tests.{not_has}
use Rattle.lists.proofs.Tables.{length_cut, cut_at, cut_concat}
use Rattle.lists.proofs.Distinct.{at_index}
use Rattle.rounding.proofs.Draws.{nat_total}
use Rattle.soundness.specs.Sound.{Sound}
use Rattle.soundness.proofs.CellParts.{smallest_part}
use Rattle.soundness.proofs.Cells.{CellOf, child_at, below_whole, length_whole, cells_split, length_child, child_cell}
use Rattle.soundness.proofs.FineParts.{part_known}
use Rattle.soundness.proofs.SplitSound.{split_sound}
use Rattle.averaging.specs.Tally.{Tally, counting, repeat, corner_step}
use Rattle.averaging.specs.Pass.{biased, corner_coordinate, weighed, child_step, cell_step, table_step}
use Rattle.averaging.specs.Ready.{table}
use Rattle.averaging.proofs.Steps.{repeat_same}
use Rattle.averaging.proofs.Folds.{fold_over, fold_concat_map, fold_places}
use Rattle.averaging.specs.Weights.{weight_rows}
use Rattle.averaging.proofs.ChildSums.{corners_some, child_total}
use Rattle.averaging.proofs.Passed.{visit, passed}

-- ---- a cell that names no corner twice counts once for each corner

once_counted : (d s f : ℕ) (c : List ℕ) → Once c → (t : Tally) → fold_over (λ (g : ℕ). corner_step d s g f) c t ≡ cond (has f c) (counting d s t) t
unfolding has any corner_step
once_counted d s f [] o t = refl
once_counted d s f (g ∷ gs) o t = go (eqb f g) refl (once_counted d s f gs o.1)
  where
    go : (b : Bool) → eqb f g ≡ b → ((t : Tally) → fold_over (λ (g : ℕ). corner_step d s g f) gs t ≡ cond (any (eqb f) gs) (counting d s t) t)
        → fold_over (λ (g : ℕ). corner_step d s g f) gs (cond b (counting d s t) t) ≡ cond (b || any (eqb f) gs) (counting d s t) t
    go true e r = r (counting d s t) ∙ ap (λ (b : Bool). cond b (counting d s (counting d s t)) (counting d s t)) (not_has f gs (λ i. o.0 (subst (λ (x : ℕ). In x gs) (eqb-true f g e) i)))
    go false e r = r t

pub cells_cut : (m : Mesh) (κ : Kind) → cells_of (topology m) κ ≡ cut (corners κ) (table m κ)
unfolding topology
cells_cut m hex = refl
cells_cut m quad = refl
cells_cut m segment = refl
cells_cut m point = refl

-- the split positions of all corners of a fine cell, in eighths, on axis a
abbrev pub value : Mesh → ℕ → List ℕ → ℕ
value m a c = nat_total (cell_draws (parts (topology m)) c) (λ (u : ℕ). biased (get_or m.vertices (3 * u + a) (pos 0)))

-- ---- one table

module _ (m : Mesh) (s : Sound (topology m)) (κ : Kind) where
  abbrev t : Topology
  t = topology m

  abbrev n : ℕ
  n = corners κ

  abbrev cells : List (List ℕ)
  cells = cells_of (topology m) κ

  abbrev fine : List (List ℕ)
  fine = cells_of (split (topology m)) κ

  -- cell number c, and its child number i
  abbrev cell : ℕ → List ℕ
  cell c = get_or (cells_of (topology m) κ) c []

  abbrev born : ℕ → ℕ → List ℕ
  born c i = child_at (topology m) κ (get_or (cells_of (topology m) κ) c []) i

  pub count_cells : length cells ≡ length (table m κ) / n
  count_cells = ap length (cells_cut m κ) ∙ length_cut n (table m κ)

  length_born : (c : List ℕ) → length (children (parts t) κ c) ≡ n
  unfolding children
  length_born c = length-map (whole κ) (child_at t κ c) ∙ length_whole κ

  children_at : (c : List ℕ) (i : ℕ) → i < n → get_or (children (parts t) κ c) i [] ≡ child_at t κ c i
  unfolding children whole
  children_at c i l = get_or_run (child_at t κ c) [] 0 n i l ∙ ap (child_at t κ c) (zero-add i)

  -- the fine cells, n by n, are the children of the cells
  pub families : cut n fine ≡ map (children (parts t) κ) cells
  families =
      ap (cut n) (cells_split t κ ∙ concat_map_is (children (parts t) κ) cells)
      ∙ cut_concat n (map (children (parts t) κ) cells) (corners_some κ) (λ b j. let a = in_map (children (parts t) κ) cells b j in ap length a.2 ∙ length_born a.0)

  family_at : (c : ℕ) → c < length cells → get_or (cut n fine) c [] ≡ children (parts t) κ (cell c)
  family_at c h = ap (λ (fs : List (List (List ℕ))). get_or fs c []) families ∙ get_or_map (children (parts t) κ) cells c [] [] h

  pub born_at : (c i : ℕ) → c < length cells → i < n → get_or (get_or (cut n fine) c []) i [] ≡ born c i
  born_at c i h l = ap (λ (b : List (List ℕ)). get_or b i []) (family_at c h) ∙ children_at (cell c) i l

  in_cells : (c : ℕ) → c < length cells → CellOf t
  in_cells c h = record { kind = κ; cell = cell c; listed = get_or_in cells c [] h }

  pub born_listed : (c i : ℕ) → c < length cells → i < n → In (born c i) fine
  unfolding child_cell in_cells
  born_listed c i h l = (child_cell t (in_cells c h) i (below_whole κ i l)).listed

  born_once : (c i : ℕ) → c < length cells → i < n → Once (born c i)
  born_once c i h l =
      let size = length_child t κ (cell c) i in
      place_once (born c i) 0 (λ j k p q e. (split_sound t s).corners_distinct κ (born c i) (born_listed c i h l) j k (below_whole κ j (rw size at p)) (below_whole κ k (rw size at q)) e)

  -- a corner of a cell is a vertex
  pub corner_known : (c u : ℕ) → c < length cells → u < n → get_or (cell c) u 0 < length m.vertices / 3
  unfolding topology
  corner_known c u h l = s.known κ (cell c) (get_or_in cells c [] h) u (below_whole κ u l)

  -- ---- on one axis, for one vertex

  module _ (a f : ℕ) (axis : a < 3) where
    abbrev at : ℕ → ℕ → ℕ
    at c = corner_coordinate (cut 3 m.vertices) (get_or (cells_of (topology m) κ) c []) a

    at_is : (c u : ℕ) → c < length cells → u < n → biased (get_or m.vertices (3 * get_or (cell c) u 0 + a) (pos 0)) ≡ at c u
    unfolding corner_coordinate
    at_is c u h l = ap biased (sym (cut_at 3 (get_or (cell c) u 0) a m.vertices [] (pos 0) (corner_known c u h l) axis))

    born_value : (c i : ℕ) → c < length cells → i < n → value m a (born c i) ≡ weighed n (get_or (weight_rows κ) i []) (at c)
    unfolding child fine_vertex in_cells
    born_value c i h l =
        let x = in_cells c h in
        let w = below_whole κ i l in
        child_total κ (λ (u : ℕ). biased (get_or m.vertices (3 * u + a) (pos 0))) (at c) (parts t) (cell c) (λ (j : ℕ). fine_vertex (parts t) (cell c) (smallest κ i j)) i w
        (λ j k. at_index (key_at (cell c) (smallest κ i j)) (parts t) (part_known t s x (smallest κ i j) (smallest_part κ i w j k)))
        (λ u k. at_is c u h k)

    child_is : (d c i : ℕ) → c < length cells → i < n → (z : Tally) → child_step n d (weighed n (get_or (weight_rows κ) i []) (at c)) (born c i) f z ≡ visit (value m a) f d (born c i) z
    unfolding child_step visit
    child_is d c i h l z =
        let v = value m a (born c i) in
        ap (λ (s : ℕ). repeat n (λ (j : ℕ). corner_step d s (get_or (born c i) j 0)) f z) (sym (born_value c i h l))
        ∙ ap (λ (k : ℕ). repeat k (λ (j : ℕ). corner_step d v (get_or (born c i) j 0)) f z) (sym (length_child t κ (cell c) i))
        ∙ fold_places (corner_step d v) (born c i) 0 f z
        ∙ once_counted d v f (born c i) (born_once c i h l) z

    cell_is : (d c : ℕ) → c < length cells → (z : Tally) → cell_step n d (weight_rows κ) (at c) (children (parts t) κ (cell c)) f z ≡ passed (value m a) f d (children (parts t) κ (cell c)) z
    unfolding cell_step
    cell_is d c h z =
        let bs = children (parts t) κ (cell c) in
        let s = λ (i : ℕ) (b : List ℕ). child_step n d (weighed n (get_or (weight_rows κ) i []) (at c)) b in
        repeat_same n (λ (i : ℕ). s i (get_or bs i [])) (λ (i f : ℕ). visit (value m a) f d (get_or bs i [])) f
        (λ i l z. ap (λ (b : List ℕ). s i b f z) (children_at (cell c) i l) ∙ child_is d c i h l z ∙ ap (λ (b : List ℕ). visit (value m a) f d b z) (sym (children_at (cell c) i l))) z
        ∙ ap (λ (k : ℕ). repeat k (λ (i f : ℕ). visit (value m a) f d (get_or bs i [])) f z) (sym (length_born (cell c)))
        ∙ fold_places (λ (b : List ℕ) (f : ℕ). visit (value m a) f d b) bs [] f z

    -- the pass over the table is the pass over the fine cells of its kind
    pub table_is : (d : ℕ) (z : Tally) → table_step n d (weight_rows κ) (cut 3 m.vertices) cells (cut n fine) a f z ≡ passed (value m a) f d fine z
    unfolding table_step
    table_is d z =
        repeat_same (length cells) (λ (c : ℕ). cell_step n d (weight_rows κ) (at c) (get_or (cut n fine) c [])) (λ (c f : ℕ). passed (value m a) f d (children (parts t) κ (cell c))) f
        (λ c h z. ap (λ (bs : List (List ℕ)). cell_step n d (weight_rows κ) (at c) bs f z) (family_at c h) ∙ cell_is d c h z) z
        ∙ fold_places (λ (c : List ℕ) (f : ℕ). passed (value m a) f d (children (parts t) κ c)) cells [] f z
        ∙ sym (fold_concat_map (visit (value m a) f d) (children (parts t) κ) cells z)
        ∙ ap (λ (cs : List (List ℕ)). passed (value m a) f d cs z) (sym (cells_split t κ))
