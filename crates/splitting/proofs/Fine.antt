-- The numbers that are stored are those of the rules: the children of all cells of a sound topology. Assumes nothing.
use mathlib.Core.Path.{◌≡◌, refl, sym, ap, ◌∙◌}
use mathlib.Core.Logic.{inl, inr}
use mathlib.Core.List.{List, [], ◌∷◌, ◌++◌, map, map-id, map-map, append_assoc, append-nil}
use Prim.Native.Nat.{ℕ, ◌+◌, ◌/◌, ◌<◌}
use native.Mathlib.Nat.{mod-one}
use native.Mathlib.Omega.{arith}
use lib.ListN.{length, get_or, length-map, get_or-append}
use Rattle.rules.specs.Lists.{concat, concat_map, up_from, Key, index_of}
use Rattle.rules.specs.Mesh.{Kind, hex, point, whole, by_dimension, places, cell_parts, first_holding, smallest, smallest_table, Mesh, Topology, topology, cells_of}
use Rattle.rules.specs.Split.{key_at, edges, faces, parts, fine_vertex, child, children, split_by, split}
use Rattle.lists.specs.Membership.{In}
use Rattle.lists.proofs.Membership.{map_same, concat_map_same, concat_map_is, get_or_map, get_or_in, in_up_from}
use Rattle.lists.proofs.Tables.{length_cut, concat_cut}
use Rattle.soundness.specs.Sound.{Sound}
use Rattle.soundness.specs.Numbers.{start, number_of}
use Rattle.soundness.proofs.CellParts.{smallest_below}
use Rattle.soundness.proofs.Cells.{CellOf, fine}
use Rattle.soundness.proofs.Numbers.{is_hex, fine_upper, fine_hex, cell_vertices, point_child}
use Rattle.numbering.specs.Parts.{part_keys}
use Rattle.numbering.proofs.Firsts.{firsts_get_or}
use Rattle.splitting.specs.declared.kinds.CellKind.{CellKind}
use Rattle.splitting.specs.declared.kinds.CellKind.TheVariants.{Hex, Quad, Segment}
use Rattle.splitting.specs.Kinds.{kind_of, corner_count}
use Rattle.splitting.specs.Cells.{cells_in, entry_of, numbers_in, cell_numbers, picked, child_corners, first_children}
use Rattle.splitting.proofs.KindParts.{edge_places, face_places}

module _ {A B : Type 0} where
  concat_map_map : {C : Type 0} (f : B → List C) (g : A → B) (xs : List A) → concat_map f (map g xs) ≡ concat_map (λ (x : A). f (g x)) xs
  unfolding concat_map
  concat_map_map f g [] = refl
  concat_map_map f g (x ∷ xs) = ap (λ (r : List _). f (g x) ++ r) (concat_map_map f g xs)

module _ {B : Type 0} where
  concat_append : (xs ys : List (List B)) → concat (xs ++ ys) ≡ concat xs ++ concat ys
  unfolding concat
  concat_append [] ys = refl
  concat_append (x ∷ xs) ys = ap (λ (r : List B). x ++ r) (concat_append xs ys) ∙ sym (append_assoc x (concat xs) (concat ys))

module _ {A B : Type 0} where
  concat_concat_map : (f : A → List (List B)) (xs : List A) → concat (concat_map f xs) ≡ concat_map (λ (x : A). concat (f x)) xs
  unfolding concat concat_map
  concat_concat_map f [] = refl
  concat_concat_map f (x ∷ xs) = concat_append (f x) (concat_map f xs) ∙ ap (λ (r : List B). concat (f x) ++ r) (concat_concat_map f xs)

-- ---- children from numbers, with any numbering

pub children_are : (numbered : List Key) (κ : Kind) (cell more : List ℕ) → child_corners κ (map (fine_vertex numbered cell) (cell_parts κ) ++ more) ≡ concat (children numbered κ cell)
unfolding child_corners smallest_table children child smallest
children_are numbered κ cell more =
    let ps = cell_parts κ in
    let f = fine_vertex numbered cell in
    let ns = map f ps ++ more in
    concat_map_map (picked ns) (λ (i : ℕ). map (λ (j : ℕ). first_holding i j ps) (whole κ)) (whole κ)
    ∙ concat_map_same (λ (i : ℕ). picked ns (map (λ (j : ℕ). first_holding i j ps) (whole κ))) (child numbered κ cell) (whole κ)
    (λ i h. map-map (λ (q : ℕ). get_or ns q 0) (λ (j : ℕ). first_holding i j ps) (whole κ)
    ∙ map_same (λ (j : ℕ). get_or ns (first_holding i j ps) 0) (λ (j : ℕ). f (get_or ps (first_holding i j ps) [])) (whole κ)
    (λ j k.
    let l = smallest_below κ i h j k in
    get_or-append (map f ps) more 0 (first_holding i j ps) (omega (arith, length-map ps f)) ∙ get_or_map f ps (first_holding i j ps) [] 0 l))
    ∙ concat_map_is (child numbered κ cell) (whole κ)

-- ---- the numbers of a cell's parts, in a sound topology

-- what is stored for the cell, with all edges and faces of the topology
abbrev pub stored_for : Topology → CellKind → ℕ → List ℕ → List ℕ
stored_for t kind own cell =
    cell_numbers kind t.vertex_count (edges t) (t.vertex_count + length (edges t)) (faces t) own cell

-- the places of edges and faces are those of the rules
numbers_in_lem : (base : ℕ) (cell : List ℕ) (ps : List (List ℕ)) (all : List Key) → numbers_in base (map (key_at cell) ps) all ≡ map (λ (p : List ℕ). base + index_of (key_at cell p) all) ps
numbers_in_lem base cell ps all = map-map (λ (k : Key). base + index_of k all) (key_at cell) ps

stored_is : (t : Topology) (kind : CellKind) (own : ℕ) (cell : List ℕ) → stored_for t kind own cell ≡ cell ++ (map (number_of t cell 1) (places (kind_of kind) 1) ++ (map (number_of t cell 2) (places (kind_of kind) 2) ++ (own ∷ [])))
unfolding cell_numbers part_keys
stored_is t kind own cell =
    rw (edge_places kind, face_places kind, numbers_in_lem t.vertex_count cell (places (kind_of kind) 1) (edges t), numbers_in_lem (t.vertex_count + length (edges t)) cell (places (kind_of kind) 2) (faces t))

module _ (t : Topology) (s : Sound t) where
  -- a cell without a vertex of its own beside its edges and faces
  no_body : (kind : CellKind) (cell : List ℕ) (own : ℕ) → In cell (cells_of t (kind_of kind)) → places (kind_of kind) 3 ≡ [] → child_corners (kind_of kind) (stored_for t kind own cell) ≡ concat (children (parts t) (kind_of kind) cell)
  no_body kind cell own i e =
      let κ = kind_of kind in
      let a = map (number_of t cell 1) (places κ 1) in
      let b = map (number_of t cell 2) (places κ 2) in
      let v : map (fine t cell) (cell_parts κ) ≡ cell ++ (a ++ b) =
      cell_vertices t s (record { kind = κ; cell = cell; listed = i }) ∙ rw (e, append-nil b) in
      ap (child_corners κ) (stored_is t kind own cell ∙ ap (λ (l : List ℕ). cell ++ l) (sym (append_assoc a b (own ∷ []))) ∙ sym (append_assoc cell (a ++ b) (own ∷ [])) ∙ ap (λ (l : List ℕ). l ++ (own ∷ [])) (sym v))
      ∙ children_are (parts t) κ cell (own ∷ [])

  -- a hex: its own vertex has the number behind vertices, edges, faces and the hexes before it
  body : (h : ℕ) → h < length t.hexes → child_corners hex (stored_for t Hex (start t 3 + h) (get_or t.hexes h [])) ≡ concat (children (parts t) hex (get_or t.hexes h []))
  unfolding places by_dimension
  body h l =
      let cell = get_or t.hexes h [] in
      let x : CellOf t = record { kind = hex; cell = cell; listed = get_or_in t.hexes h [] l } in
      let a = map (number_of t cell 1) (places hex 1) in
      let b = map (number_of t cell 2) (places hex 2) in
      let o : number_of t cell 3 (whole hex) ≡ start t 3 + h = sym (fine_upper t x 3 (inr (inr (inl refl))) (whole hex) is_hex) ∙ fine_hex t s h l in
      let v : map (fine t cell) (cell_parts hex) ≡ cell ++ (a ++ (b ++ ((start t 3 + h) ∷ []))) =
      cell_vertices t s x ∙ ap (λ (n : ℕ). cell ++ (a ++ (b ++ (n ∷ [])))) o in
      ap (child_corners hex) (stored_is t Hex (start t 3 + h) cell ∙ sym v ∙ sym (append-nil (map (fine t cell) (cell_parts hex))))
      ∙ children_are (parts t) hex cell []

-- ---- all cells of a table

-- g of each cell, by number
by_number : {B : Type 0} (g : List ℕ → List B) (cs : List (List ℕ)) → concat_map (λ (i : ℕ). g (get_or cs i [])) (up_from 0 (length cs)) ≡ concat_map g cs
by_number g cs = sym (concat_map_map g (λ (i : ℕ). get_or cs i []) (up_from 0 (length cs))) ∙ ap (concat_map g) (firsts_get_or cs [])

module _ (m : Mesh) (s : Sound (topology m)) where
  abbrev t : Topology
  t = topology m

  table_split : (kind : CellKind) (cells : List ℕ) (own : ℕ) → ((h : ℕ) → h < length (cells_in kind cells) → child_corners (kind_of kind) (stored_for t kind (own + h) (entry_of kind cells h)) ≡ concat (children (parts t) (kind_of kind) (entry_of kind cells h))) → first_children kind t.vertex_count (edges t) (t.vertex_count + length (edges t)) (faces t) own cells (length cells / corner_count kind) ≡ concat (concat_map (children (parts t) (kind_of kind)) (cells_in kind cells))
  unfolding first_children
  table_split kind cells own each =
      let cs = cells_in kind cells in
      let g : List ℕ → List ℕ = λ c. concat (children (parts t) (kind_of kind) c) in
      let f : ℕ → List ℕ = λ i. child_corners (kind_of kind) (stored_for t kind (own + i) (entry_of kind cells i)) in
      ap (λ (n : ℕ). concat_map f (up_from 0 n)) (sym (length_cut (corner_count kind) cells))
      ∙ concat_map_same f (λ (i : ℕ). g (get_or cs i [])) (up_from 0 (length cs)) (λ i j. each i (omega (arith, in_up_from 0 (length cs) i j)))
      ∙ by_number g cs
      ∙ sym (concat_concat_map (children (parts t) (kind_of kind)) cs)

  pub hexes_split : first_children Hex t.vertex_count (edges t) (t.vertex_count + length (edges t)) (faces t) (start t 3) m.hexes (length m.hexes / 8) ≡ concat (split t).hexes
  unfolding topology split_by split
  hexes_split = table_split Hex m.hexes (start t 3) (λ h l. body t s h l)

  pub quads_split : (own : ℕ) → first_children Quad t.vertex_count (edges t) (t.vertex_count + length (edges t)) (faces t) own m.quads (length m.quads / 4) ≡ concat (split t).quads
  unfolding topology split_by split places by_dimension
  quads_split own = table_split Quad m.quads own (λ h l. no_body t s Quad (entry_of Quad m.quads h) (own + h) (get_or_in (cells_in Quad m.quads) h [] l) refl)

  pub segments_split : (own : ℕ) → first_children Segment t.vertex_count (edges t) (t.vertex_count + length (edges t)) (faces t) own m.segments (length m.segments / 2) ≡ concat (split t).segments
  unfolding topology split_by split places by_dimension
  segments_split own = table_split Segment m.segments own (λ h l. no_body t s Segment (entry_of Segment m.segments h) (own + h) (get_or_in (cells_in Segment m.segments) h [] l) refl)

  -- a point is its own child
  pub points_split : concat (split t).points ≡ m.points
  unfolding topology split_by split children whole up_from concat
  points_split =
      concat_concat_map (children (parts t) point) t.points
      ∙ concat_map_same (λ (c : List ℕ). concat (children (parts t) point c)) (λ (c : List ℕ). c) t.points (λ c i. append-nil (child (parts t) point c 0) ∙ point_child t s c i)
      ∙ concat_map_is (λ (c : List ℕ). c) t.points
      ∙ ap concat (map-id t.points)
      ∙ concat_cut 1 m.points (mod-one (length m.points))
