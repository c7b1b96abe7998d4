-- Cells walked one after the other: their keys and their children's corners, after i of them. Assumes nothing.
use mathlib.Core.Path.{◌≡◌, refl, sym, ap, ◌∙◌}
use mathlib.Core.List.{List, [], ◌∷◌, ◌++◌, append_assoc, append-nil}
use Prim.Native.Nat.{ℕ, suc, ◌+◌, ◌*◌, ◌/◌, ◌≤◌, ◌<◌}
use native.Mathlib.Nat.{zero-add, mul_assoc}
use native.Mathlib.Numerals.{add-one}
use native.Mathlib.Omega.{arith}
use lib.ListN.{length, get_or, take, drop}
use lib.Seq.{sets, take_all}
use Rattle.rules.specs.Lists.{concat_map, up_from, Key, meet_all}
use Rattle.lists.proofs.Once.{concat_map_append, length_concat_map}
use Rattle.lists.proofs.Membership.{length_up_from}
use Rattle.lists.proofs.Distinct.{meet_all_append}
use Rattle.lists.proofs.Tables.{length_cut}
use Rattle.memory.proofs.Stores.{sets_append, sets_front}
use Rattle.tables.proofs.Slices.{same_slice, still_same}
use Rattle.numbering.specs.Table.{keys, MetAll}
use Rattle.numbering.specs.Parts.{part_keys}
use Rattle.numbering.proofs.Firsts.{up_from_snoc}
use Rattle.numbering.proofs.Passes.{length_later, met_none, met_append, concat_map_at, concat_map_turn}
use Rattle.splitting.specs.declared.kinds.CellKind.{CellKind}
use Rattle.splitting.specs.declared.given.Base.{Base}
use Rattle.splitting.specs.declared.cells.PartTables.{PartTables}
use Rattle.splitting.specs.Kinds.{kind_of, corner_count, edges_of, faces_of}
use Rattle.splitting.specs.Cells.{cells_in, entry_of, edges_met, faces_met, cell_numbers, child_corners, first_children}
use Rattle.splitting.specs.Words.{edges_in, faces_in, numbers_at, children_in, SameTables, Room, BothMet, TableSplit}
use Rattle.splitting.proofs.Tables.{children_length}

-- ---- keys: f gives those of a cell

module _ (f : List ℕ → List Key) (cs : List (List ℕ)) (i : ℕ) (l : i < length cs) {c : ℕ} {w w₁ : List ℕ} {room n count : ℕ} (m : MetAll c w w₁ room n (concat_map f (take i cs)) count) where
  -- the next cell is met
  pub next_met : {w₂ : List ℕ} {more : ℕ} → MetAll c w₁ w₂ room count (f (get_or cs i [])) more → MetAll c w w₂ room n (concat_map f (take (i + 1) cs)) more
  next_met a = rw (concat_map_turn f cs i [] l) (met_append m a)

  -- all keys, from here: those of the next cell, those of the others, and what is met later
  pub from_here : (later : List Key) → meet_all (keys c w₁ room count) (f (get_or cs i []) ++ (concat_map f (drop (suc i) cs) ++ later)) ≡ meet_all (keys c w room n) (concat_map f cs ++ later)
  from_here later =
      let a = concat_map f (take i cs) in
      let b = f (get_or cs i []) in
      let d = concat_map f (drop (suc i) cs) in
      ap (λ (k : List Key). meet_all k (b ++ (d ++ later))) m.keys_are
      ∙ sym (meet_all_append (keys c w room n) a (b ++ (d ++ later)))
      ∙ ap (meet_all (keys c w room n)) (sym (rw (concat_map_at f cs i [] l) (append_assoc a (b ++ d) later ∙ ap (λ (r : List Key). a ++ r) (append_assoc b d later))))

  -- room for all is room for the next cell
  pub next_fits : length (meet_all (keys c w room n) (concat_map f cs)) ≤ room → length (meet_all (keys c w₁ room count) (f (get_or cs i []))) ≤ room
  next_fits u =
      let b = f (get_or cs i []) in
      let d = concat_map f (drop (suc i) cs) in
      let e = from_here [] in
      let h = length_later (keys c w₁ room count) b (d ++ []) in
      omega (arith, h, ap length e, ap (λ (k : List Key). length (meet_all (keys c w room n) k)) (append-nil (concat_map f cs)))

-- ---- children: g gives the numbers that are stored for cell number i, k of them

module _ (g : ℕ → List ℕ) (k : ℕ) (each : (i : ℕ) → length (g i) ≡ k) where
  pub first_turn : (old : List ℕ) (i : ℕ) → sets (sets old 0 (concat_map g (up_from 0 i))) (k * i) (g i) ≡ sets old 0 (concat_map g (up_from 0 (i + 1)))
  unfolding concat_map
  first_turn old i =
      let s = concat_map g (up_from 0 i) in
      let n : length s ≡ k * i = length_concat_map g k (up_from 0 i) (λ j _. each j) ∙ ap (λ (x : ℕ). k * x) (length_up_from 0 i) in
      ap (λ (x : ℕ). sets (sets old 0 s) x (g i)) (sym (zero-add (length s) ∙ n))
      ∙ sym (sets_append old 0 s (g i))
      ∙ ap (sets old 0)
      (sym (ap (λ (x : ℕ). concat_map g (up_from 0 x)) (add-one i)
      ∙ ap (concat_map g) (up_from_snoc 0 i)
      ∙ concat_map_append g (up_from 0 i) ((0 + i) ∷ [])
      ∙ ap (λ (x : ℕ). s ++ (g x ++ [])) (zero-add i)
      ∙ ap (λ (r : List ℕ). s ++ r) (append-nil (g i))))

-- ---- how many numbers are stored

first_length : (kind : CellKind) (eb : ℕ) (es : List Key) (fb : ℕ) (fs : List Key) (own : ℕ) (cells : List ℕ) (n : ℕ) → length (first_children kind eb es fb fs own cells n) ≡ corner_count kind * corner_count kind * n
unfolding first_children
first_length kind eb es fb fs own cells n =
    length_concat_map (λ (i : ℕ). child_corners (kind_of kind) (cell_numbers kind eb es fb fs (own + i) (get_or (cells_in kind cells) i []))) (corner_count kind * corner_count kind) (up_from 0 n) (λ i _. children_length kind _)
    ∙ ap (λ (k : ℕ). corner_count kind * corner_count kind * k) (length_up_from 0 n)

-- ---- the first i cells of a table have been split

pub record Walked (base : Base) (t₀ t : PartTables) (kind : CellKind) (cells : List ℕ) (own : ℕ) (old new : List ℕ) (i : ℕ) : Type 0 where
  pub same_tables : SameTables t₀ t
  pub met : BothMet base t₀ t (edges_met kind (take i (cells_in kind cells))) (faces_met kind (take i (cells_in kind cells)))
  pub stored : (es fs : List Key) → new ≡ sets old 0 (children_in base t₀ kind cells own es fs i)

pub walk_start : (base : Base) (t : PartTables) (kind : CellKind) (cells : List ℕ) (own : ℕ) (old : List ℕ) (es fs : List Key) → Room base t es fs → Walked base t t kind cells own old old 0
unfolding concat_map up_from first_children
walk_start base t kind cells own old es fs r = record {
  same_tables = record { edge_words = same_slice t.edge_words; face_words = same_slice t.face_words };
  met = record { edges = met_none r.edge_table; faces = met_none r.face_table };
  stored = λ es fs. refl;
}

module _ {base : Base} {t₀ t : PartTables} {kind : CellKind} {cells : List ℕ} {own : ℕ} {old new : List ℕ} {i : ℕ} (p : Walked base t₀ t kind cells own old new i) where
  module _ (l : i < length cells / corner_count kind) where
    listed : i < length (cells_in kind cells)
    listed = omega (arith, length_cut (corner_count kind) cells)

    -- room for all is room for the next cell
    pub walk_room : Room base t₀ (edges_met kind (cells_in kind cells)) (faces_met kind (cells_in kind cells)) → Room base t (part_keys (edges_of kind) (entry_of kind cells i)) (part_keys (faces_of kind) (entry_of kind cells i))
    walk_room r = record {
      edge_table = p.met.edges.table;
      face_table = p.met.faces.table;
      edges_fit = next_fits (part_keys (edges_of kind)) (cells_in kind cells) i listed p.met.edges r.edges_fit;
      faces_fit = next_fits (part_keys (faces_of kind)) (cells_in kind cells) i listed p.met.faces r.faces_fit;
    }

    -- the next cell was split
    pub walk_turn : {t' : PartTables} {new' : List ℕ} → SameTables t t' → BothMet base t t' (part_keys (edges_of kind) (entry_of kind cells i)) (part_keys (faces_of kind) (entry_of kind cells i)) → ((es fs : List Key) → new' ≡ sets new (corner_count kind * (corner_count kind * i)) (child_corners (kind_of kind) (numbers_at base t kind (entry_of kind cells i) (own + i) es fs))) → Walked base t₀ t' kind cells own old new' (i + 1)
    unfolding first_children
    walk_turn {t'} {new'} q m s = record {
      same_tables = record { edge_words = still_same p.same_tables.edge_words q.edge_words; face_words = still_same p.same_tables.face_words q.face_words };
      met = record {
        edges = next_met (part_keys (edges_of kind)) (cells_in kind cells) i listed p.met.edges m.edges;
        faces = next_met (part_keys (faces_of kind)) (cells_in kind cells) i listed p.met.faces m.faces;
      };
      stored = λ es fs.
          let cs = cells_in kind cells in
          let cc = corner_count kind in
          let all_edges = meet_all (edges_in base t₀) (edges_met kind cs ++ es) in
          let all_faces = meet_all (faces_in base t₀) (faces_met kind cs ++ fs) in
          let g : ℕ → List ℕ = λ j. child_corners (kind_of kind) (cell_numbers kind base.vertices all_edges (base.vertices + base.edges) all_faces (own + j) (entry_of kind cells j)) in
          (rw (from_here (part_keys (edges_of kind)) cs i listed p.met.edges es, from_here (part_keys (faces_of kind)) cs i listed p.met.faces fs)
          at (s (edges_met kind (drop (suc i) cs) ++ es) (faces_met kind (drop (suc i) cs) ++ fs)))
          ∙ ap (λ (o : List ℕ). sets o (cc * (cc * i)) (g i)) (p.stored es fs)
          ∙ ap (λ (x : ℕ). sets (sets old 0 (concat_map g (up_from 0 i))) x (g i)) (sym (mul_assoc cc cc i))
          ∙ first_turn g (cc * cc) (λ j. children_length kind _) old i;
    }

  -- all cells have been split
  pub walk_end : i ≡ length cells / corner_count kind → corner_count kind * (corner_count kind * (length cells / corner_count kind)) ≤ length old → BothMet base t₀ t (edges_met kind (cells_in kind cells)) (faces_met kind (cells_in kind cells)) × TableSplit base t₀ kind cells own old new
  walk_end e l =
      let k = corner_count kind in
      let count = length cells / k in (
        rw (take_all i (cells_in kind cells) (omega (arith, length_cut k cells))) at p.met,
        λ es fs.
            let n = first_length kind base.vertices (meet_all (edges_in base t₀) (edges_met kind (cells_in kind cells) ++ es)) (base.vertices + base.edges)
            (meet_all (faces_in base t₀) (faces_met kind (cells_in kind cells) ++ fs)) own cells count in
            (rw e at (p.stored es fs)) ∙ sets_front old (children_in base t₀ kind cells own es fs count) (omega (arith, n, mul_assoc k k count)),
      )
