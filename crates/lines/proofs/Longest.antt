-- How long the lines of a mesh can be. Assumes nothing.
use mathlib.Core.Path.{◌≡◌, refl, sym, ap, ◌∙◌}
use mathlib.Core.Logic.{inl, inr}
use mathlib.Core.List.{List, [], ◌∷◌, map}
use Prim.Native.Nat.{ℕ, zero, suc, ◌+◌, ◌*◌, ◌/◌, ◌^◌, ◌≤◌, ◌<◌}
use native.Mathlib.Omega.{arith}
use lib.ListN.{length, get_or, take, drop, length-append, length-map}
use lib.Seq.{get_or-drop}
use lib.IntN.{ℤ, pos, negsuc}
use Rattle.rules.specs.Lists.{Each, concat_map, cut, has, up_from}
use Rattle.rules.specs.Mesh.{Mesh, Topology, topology}
use Rattle.rules.specs.Averaging.{holding, Counted, or_else, counted, rank, valence}
use Rattle.rules.specs.declared.Counts.{Counts}
use Rattle.rules.specs.declared.Sizes.{Sizes}
use Rattle.rules.specs.Counts.{counts_of, counts_in}
use Rattle.counting.specs.Bounded.{Narrow}
use Rattle.std.specs.Fmt.{decimal as printed, signed_decimal as signed}
use Rattle.rules.specs.Refusals.{outside, coordinate_out_of_range}
use Rattle.rules.specs.Text.{text}
use Rattle.rules.specs.Listing.{decimal, signed_decimal, fields, line, mesh_line, vertex_line, cell_lines, mesh_lines, refused_line}
use Rattle.lists.specs.Membership.{In}
use Rattle.lists.proofs.Tests.{none_at}
use Rattle.lists.proofs.Membership.{in_get_or, length_keep, in_up_from, length_up_from}
use Rattle.lists.proofs.Tables.{length_cut, length_entry, cut_entry}
use Rattle.integers.specs.Range.{InRange}
use Rattle.integers.proofs.Range.{inside}
use Rattle.lines.specs.declared.text.Text.{Text}
use Rattle.lines.specs.Appended.{Room, Appended}
use Rattle.lines.specs.Fitting.{Fitting, output_size}
use mir.Syntax.{w32, w64}
use mir.Val.{to_z, of_z}
use mir.Facts.{to_z-of_z}
use Rattle.lines.proofs.Runs.{append_length}
use Rattle.lines.proofs.Digits.{few_digits, printed_one, printed_words, shown, shown_word, shown_size}
use Rattle.lines.proofs.Fields.{numbers, vertex_line_is}

-- a field of at most 10 bytes
record Short (f : List ℕ) : Type 0 where
  bytes : length f ≤ 10

short_decimal : (n : ℕ) → n < 10_000_000_000 → Short (decimal n)
short_decimal n h = record { bytes = few_digits 9 n h }

short_signed : (z : ℤ) → InRange z → Short (signed_decimal z)
unfolding signed_decimal
short_signed (pos n) h = short_decimal n (omega arith)
short_signed (negsuc n) h = record { bytes = omega (arith, few_digits 8 (suc n) (omega arith)) }

fields_length : (fs : List (List ℕ)) → Each Short fs → length (fields fs) ≤ 11 * length fs + 1
unfolding fields
fields_length [] h = omega arith
fields_length (f ∷ fs) h = omega (arith, length-append f (fields fs), h.0.bytes, fields_length fs h.1)

line_length : (word : List ℕ) (fs : List (List ℕ)) → Each Short fs → length (line word fs) ≤ length word + (11 * length fs + 1)
unfolding line
line_length word fs h = omega (arith, length-append word (fields fs), fields_length fs h)

pub refused_length : (n : ℕ) → n < 2 ^ 32 → length (refused_line n) ≤ 19
unfolding refused_line
refused_length n h = line_length (text "refused") (decimal n ∷ []) (short_decimal n (omega arith), tt)

-- the runs of a list, each of at most b bytes
runs_length : {A : Type 0} (f : A → List ℕ) (b : ℕ) (xs : List A) → ((x : A) → In x xs → length (f x) ≤ b) → length (concat_map f xs) ≤ b * length xs
unfolding concat_map
runs_length f b [] h = omega arith
runs_length f b (x ∷ xs) h = omega (arith, length-append (f x) (concat_map f xs), h x (inl refl), runs_length f b xs (λ y i. h y (inr i)))

-- ---- cells

-- the corners of a table are u32 numbers
abbrev pub Words : List ℕ → Type 0
Words table = (i : ℕ) → get_or table i 0 < 2 ^ 32

short_cell : (k : ℕ) (table : List ℕ) → Words table → Each Short (map decimal (take k table))
short_cell zero table w = tt
short_cell (suc k) [] w = tt
short_cell (suc k) (n ∷ table) w = (short_decimal n (omega (arith, w 0)), short_cell k table (λ i. w (suc i)))

cell_length : (letter k : ℕ) (table : List ℕ) → Words table → (cell : List ℕ) → In cell (cut k table) → length (line (letter ∷ []) (map decimal cell)) ≤ 11 * k + 2
cell_length letter k table w cell i =
    let r = in_get_or (cut k table) cell [] i in
    let c = r.0 in
    let e : cell ≡ take k (drop (k * c) table) = sym r.2 ∙ cut_entry k c table [] (rw (length_cut k table) at r.1) in
    let short = short_cell k (drop (k * c) table) (λ j. rw (get_or-drop (k * c) table j 0) (w (k * c + j))) in
    omega (arith, line_length (letter ∷ []) (map decimal cell) (rw e short), length-map cell decimal, length_entry k table cell i)

pub cells_length : (letter k : ℕ) (table : List ℕ) → Words table → length (cell_lines (letter ∷ []) (cut k table)) ≤ (11 * k + 2) * (length table / k)
unfolding cell_lines
cells_length letter k table w = rw (← length_cut k table) (runs_length _ (11 * k + 2) (cut k table) (cell_length letter k table w))

pub room_for_cells : {t : Text} (letter k : ℕ) (table : List ℕ) → t.length + (11 * k + 2) * (length table / k) ≤ length t.buffer.now → Words table → Room t (cell_lines (letter ∷ []) (cut k table))
room_for_cells letter k table r w = record { fits = omega (arith, r, cells_length letter k table w) }

pub cell_shown : (k i : ℕ) (table z : List ℕ) → i < length (cut k table) → Words table → map printed (get_or (cut k table) i z) ≡ map decimal (get_or (cut k table) i z)
cell_shown k i table z h w =
    rw (cut_entry k i table z (rw (length_cut k table) at h))
    (printed_words k (drop (k * i) table) (λ j. rw (get_or-drop (k * i) table j 0) (w (k * i + j))))

-- ---- vertices

-- a vertex has a rank of at most 3, and its valence is at most the length of a table
record Counts≤ (b : ℕ) (c : Counted) : Type 0 where
  low : c.rank ≤ 3
  few : length c.cells ≤ b

either_bound : (b d : ℕ) (cells : List (List ℕ)) (higher : Counted) → d ≤ 3 → length cells ≤ b → Counts≤ b higher → Counts≤ b (or_else d cells higher)
unfolding or_else
either_bound b d [] higher l h k = k
either_bound b d (x ∷ xs) higher l h k = record { low = l; few = h }

counted_bound : (t : Topology) (v b : ℕ) → length t.hexes ≤ b → length t.quads ≤ b → length t.segments ≤ b → length t.points ≤ b → Counts≤ b (counted t v)
unfolding counted holding
counted_bound t v b h q s p =
    either_bound b 0 _ _ (omega arith) (omega (arith, length_keep (has v) t.points))
    (either_bound b 1 _ _ (omega arith) (omega (arith, length_keep (has v) t.segments))
    (either_bound b 2 _ _ (omega arith) (omega (arith, length_keep (has v) t.quads))
    (record { low = omega arith; few = omega (arith, length_keep (has v) t.hexes) })))

-- ---- a mesh

abbrev wide : ℤ → ℤ
wide z = to_z w64 (of_z w64 z)

abbrev pub Coordinate : Mesh → ℕ → ℤ → Type 0
Coordinate m i z = z ≡ to_z w32 (of_z w32 (get_or m.vertices i (pos 0)))

module _ (m : Mesh) (f : Fitting m) where
  near_at : (i : ℕ) → i < length m.vertices → Short (signed_decimal (get_or m.vertices i (pos 0)))
  unfolding coordinate_out_of_range
  near_at i h = short_signed _ ((inside (get_or m.vertices i (pos 0))).0 (none_at outside m.vertices (pos 0) f.near i h))

  ranked : (v : ℕ) → Counts≤ 256 (counted (topology m) v)
  unfolding topology
  ranked v =
      counted_bound (topology m) v 256
      (rw (length_cut 8 m.hexes) (omega (arith, f.hexes)))
      (rw (length_cut 4 m.quads) (omega (arith, f.quads)))
      (rw (length_cut 2 m.segments) (omega (arith, f.segments)))
      (rw (length_cut 1 m.points) (omega (arith, f.points)))

  vertex_length : (v : ℕ) → v < length m.vertices / 3 → length (vertex_line m (topology m) v) ≤ 68
  unfolding rank valence signed_decimal
  vertex_length v h =
      rw (vertex_line_is m (topology m) v)
      (line_length (text "v") (map signed_decimal (numbers m (topology m) v)) (
        short_decimal v (omega (arith, f.vertices)),
        (
          near_at (3 * v) (omega arith),
          (
            near_at (3 * v + 1) (omega arith),
            (
              near_at (3 * v + 2) (omega arith),
              (
                short_decimal _ (omega (arith, (ranked v).low)),
                (
                  short_decimal _ (omega (arith, (ranked v).few)),
                  tt,
                ),
              ),
            ),
          ),
        ),
      ))

  pub first_length : length (mesh_line (counts_of m)) ≤ 60
  unfolding mesh_line counts_of
  first_length =
      let c = counts_of m in
      line_length (text "mesh") (map decimal (c.vertices ∷ c.hexes ∷ c.quads ∷ c.segments ∷ c.points ∷ [])) (
        short_decimal _ (omega (arith, f.vertices)),
        (
          short_decimal _ (omega (arith, f.hexes)),
          (
            short_decimal _ (omega (arith, f.quads)),
            (
              short_decimal _ (omega (arith, f.segments)),
              (
                short_decimal _ (omega (arith, f.points)),
                tt,
              ),
            ),
          ),
        ),
      )

  pub vertices_length : length (concat_map (vertex_line m (topology m)) (up_from 0 (length m.vertices / 3))) ≤ 68 * (length m.vertices / 3)
  vertices_length =
      let n = length m.vertices / 3 in
      let v = runs_length (vertex_line m (topology m)) 68 (up_from 0 n) (λ x i. vertex_length x (omega (arith, (in_up_from 0 n x i).1))) in
      omega (arith, v, length_up_from 0 n)

  -- the longest listing
  pub mesh_lines_length : Words m.hexes → Words m.quads → Words m.segments → Words m.points → length (mesh_lines m) ≤ output_size
  unfolding mesh_lines topology
  mesh_lines_length h q s p =
      simp length-append (omega (arith, first_length, vertices_length, cells_length 104 8 m.hexes h, cells_length 113 4 m.quads q, cells_length 115 2 m.segments s, cells_length 112 1 m.points p))

  -- what the first line and the vertices leave for the cells
  pub cells_room : {t₀ t₁ t₂ : Text} → t₀.length + output_size ≤ length t₀.buffer.now → Appended t₀ t₁ (mesh_line (counts_of m)) → Appended t₁ t₂ (concat_map (vertex_line m (topology m)) (up_from 0 (length m.vertices / 3))) →
      t₂.length + (90 + 46 + 24 + 13) * 256 ≤ length t₂.buffer.now
  cells_room room first vertices = omega (arith, room, first_length, vertices_length, f.vertices, first.behind, vertices.behind, append_length first, append_length vertices)

  -- a rank and a valence are small
  pub rank_small : (v : ℕ) → rank (topology m) v ≤ 3
  unfolding rank
  rank_small v = (ranked v).low

  pub valence_small : (v : ℕ) → valence (topology m) v ≤ 256
  unfolding valence
  valence_small v = (ranked v).few

  -- a coordinate is handed on by its bits, from 32 of them to 64
  coordinate_shown : (i : ℕ) → i < length m.vertices → {y : ℤ} → y ≡ to_z w32 (of_z w32 (get_or m.vertices i (pos 0))) → signed (to_z w64 (of_z w64 y)) ≡ signed_decimal (get_or m.vertices i (pos 0))
  unfolding coordinate_out_of_range
  coordinate_shown i h {y} e =
      let z = get_or m.vertices i (pos 0) in
      let r : InRange z = (inside z).0 (none_at outside m.vertices (pos 0) f.near i h) in
      let same : y ≡ z = e ∙ to_z-of_z {w = w32} (record { sfits = omega arith }) in
      rw same (shown z (record { sfits = omega arith }))

  -- the numbers that are handed on are those of the vertex's line
  pub vertex_shown : (v : ℕ) → v < length m.vertices / 3 → {a x y z : ℤ} {r n : ℕ} → a ≡ pos v → Coordinate m (3 * v) x → Coordinate m (3 * v + 1) y → Coordinate m (3 * v + 2) z → r ≡ rank (topology m) v → n ≡ valence (topology m) v →
      line (text "v") (map signed (wide a ∷ wide x ∷ wide y ∷ wide z ∷ to_z w64 r ∷ to_z w64 n ∷ [])) ≡ vertex_line m (topology m) v
  unfolding signed_decimal
  vertex_shown v h {a} {r = r} {n = n} number at₀ at₁ at₂ ranks counts =
      rw (
        shown_word a v number (omega (arith, f.vertices)),
        coordinate_shown (3 * v) (omega arith) at₀,
        coordinate_shown (3 * v + 1) (omega arith) at₁,
        coordinate_shown (3 * v + 2) (omega arith) at₂,
        shown_size r _ ranks (omega (arith, rank_small v)),
        shown_size n _ counts (valence_small v),
      ) (sym (vertex_line_is m (topology m) v))

  -- and the counts those of the first line
  pub narrow : (s : Sizes) → counts_in s ≡ counts_of m → Narrow s
  unfolding counts_in counts_of
  narrow s e = record {
    vertices = omega (arith, f.vertices, ap (λ (c : Counts). c.vertices) e);
    hexes = omega (arith, f.hexes, ap (λ (c : Counts). c.hexes) e);
    quads = omega (arith, f.quads, ap (λ (c : Counts). c.quads) e);
    segments = omega (arith, f.segments, ap (λ (c : Counts). c.segments) e);
    points = omega (arith, f.points, ap (λ (c : Counts). c.points) e);
  }

  pub counts_shown : {c : Counts} → c ≡ counts_of m → line (text "mesh") (map printed (c.vertices ∷ c.hexes ∷ c.quads ∷ c.segments ∷ c.points ∷ [])) ≡ mesh_line (counts_of m)
  unfolding mesh_line counts_of
  counts_shown e =
      rw (
        e,
        printed_one (length m.vertices / 3) (omega (arith, f.vertices)),
        printed_one (length m.hexes / 8) (omega (arith, f.hexes)),
        printed_one (length m.quads / 4) (omega (arith, f.quads)),
        printed_one (length m.segments / 2) (omega (arith, f.segments)),
        printed_one (length m.points / 1) (omega (arith, f.points)),
      ) refl

pub refused_shown : (n : ℕ) → n < 2 ^ 32 → line (text "refused") (printed n ∷ []) ≡ refused_line n
unfolding refused_line
refused_shown n h = rw (printed_one n (omega arith)) refl

pub room_for_refusal : {t : Text} (n : ℕ) → t.length + 19 ≤ length t.buffer.now → n < 2 ^ 32 → Room t (refused_line n)
room_for_refusal n r h = record { fits = omega (arith, refused_length n h) }
