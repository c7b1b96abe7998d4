-- The walk of a mesh by number: what stands at each place of the parts that are met. Assumes nothing.
use mathlib.Core.Path.{◌≡◌, refl, sym, ap, ◌∙◌}
use mathlib.Core.Logic.{⊎_elim}
use mathlib.Core.List.{List, [], ◌∷◌, ◌++◌, map, append-nil}
use Rattle.std.specs.Prelude.{ℤ}
use Prim.Native.Nat.{ℕ, zero, suc, ◌+◌, ◌-◌, ◌*◌, ◌/◌, ◌%◌, ◌≤◌, ◌<◌}
use native.Mathlib.Nat.{mul-le-mul_right, mod-lt, div-lt_iff_lt-mul, div-add-mod', mul-le-mul_left, mul-div-le}
use native.Mathlib.Omega.{arith}
use lib.Dec.{lit<}
use lib.ListN.{length, get_or, take, drop, length-append, length-map, get_or-append}
use lib.Seq.{get_or-append-add}
use Rattle.rules.specs.Lists.{concat_map, cut, up_from}
use Rattle.rules.specs.Mesh.{Mesh, Kind, hex, quad, segment, point, corners, mesh, topology, singles, whole, by_dimension, places, place_of}
use Rattle.rules.specs.Split.{corners_at, met}
use Rattle.lists.specs.Membership.{In}
use Rattle.lists.proofs.Membership.{in_append, in_map, in_concat_map, get_or_in, get_or_map}
use Rattle.lists.proofs.Once.{length_concat_map}
use Rattle.lists.proofs.Tables.{length_cut, length_entry}
use Rattle.lists.proofs.Decide.{computed, dec_each, dec_number}
use Rattle.numbering.specs.declared.parts.Parts.{Parts}
use Rattle.numbering.specs.declared.parts.Parts.TheVariants.{HexEdges, HexFaces, Hexes, QuadEdges, Quads, Segments, SegmentFaces, Points}
use Rattle.numbering.specs.Parts.{places_of, part_corners, cell_corners, table_keys}
use Rattle.numbering.proofs.Places.{part_size, place_below, length_table_keys}
use Rattle.checks.specs.declared.parts.Part.{Part}
use Rattle.checks.specs.declared.parts.Part.TheVariants.{Edge, Face}
use Rattle.checks.proofs.Slices.{entry_part}
use Rattle.checks.specs.Walk.{parts_of, parts_in, dimension, size_of, Named}

-- ---- lists that are joined from lists of one length

module _ {A B : Type 0} (f : A → List B) (n : ℕ) (even : (x : A) → length (f x) ≡ n) where
  at_joined : (xs : List A) (c j : ℕ) (z : A) (w : B) → c < length xs → j < n → get_or (concat_map f xs) (n * c + j) w ≡ get_or (f (get_or xs c z)) j w
  unfolding concat_map
  at_joined [] c j z w h l = absurd (omega arith)
  at_joined (x ∷ xs) zero j z w h l =
      let e : n * 0 + j ≡ j = omega arith in
      rw e (get_or-append (f x) (concat_map f xs) w j (omega (arith, even x)))
  at_joined (x ∷ xs) (suc c) j z w h l =
      let e : n * suc c + j ≡ length (f x) + (n * c + j) = omega (arith, even x) in
      rw e (get_or-append-add (f x) (concat_map f xs) (n * c + j) w ∙ at_joined xs c j z w (omega arith) l)

-- ---- the parts of one table

-- a cell has at most twice as many parts of one dimension as corners
twice_corners : (of : Parts) → length (places_of of) ≤ 2 * cell_corners of
unfolding places by_dimension singles up_from
twice_corners HexEdges = omega arith
twice_corners HexFaces = omega arith
twice_corners Hexes = omega arith
twice_corners QuadEdges = omega arith
twice_corners Quads = omega arith
twice_corners Segments = omega arith
twice_corners SegmentFaces = omega arith
twice_corners Points = omega arith

module _ (of : Parts) (table : List ℕ) where
  abbrev count : ℕ
  count = length (places_of of)

  length_parts : length (parts_in of table) ≡ count * (length table / cell_corners of)
  unfolding parts_of
  length_parts =
      length_concat_map (λ (cell : List ℕ). map (corners_at cell) (places_of of)) count (cut (cell_corners of) table) (λ cell i. length-map (places_of of) (corners_at cell))
      ∙ ap (λ (n : ℕ). count * n) (length_cut (cell_corners of) table)

  -- the numbering counts them by their keys
  pub all_counted : length (table_keys of table) ≡ length (parts_in of table)
  all_counted = length_table_keys of table ∙ sym length_parts

  -- so there are at most twice as many as the table has numbers
  pub few_parts : length (parts_in of table) ≤ 2 * length table
  few_parts =
      let n = length table / cell_corners of in
      omega (arith, length_parts, mul-le-mul_right n (twice_corners of), mul-div-le (length table) (cell_corners of))

  module _ (i : ℕ) (h : i < length (parts_in of table)) where
    pub some : 0 < count
    some = go count (rw length_parts at h)
      where
        go : (n : ℕ) → i < n * (length table / cell_corners of) → 0 < n
        go zero l = absurd (omega arith)
        go (suc n) l = omega arith

    -- the cell and the part of it
    cell_below : i / count < length table / cell_corners of
    cell_below = (div-lt_iff_lt-mul some).1 (omega (arith, length_parts))

    pub part_below : i % count < count
    part_below = mod-lt i some

    -- which lies within the table
    pub cell_within : cell_corners of * (i / count) + cell_corners of ≤ length table
    cell_within = omega (arith, mul-le-mul_left (cell_corners of) cell_below, mul-div-le (length table) (cell_corners of))

    part_is : get_or (parts_in of table) i [] ≡ corners_at (get_or (cut (cell_corners of) table) (i / count) []) (get_or (places_of of) (i % count) [])
    unfolding parts_of
    part_is =
        let f : List ℕ → List (List ℕ) = λ cell. map (corners_at cell) (places_of of) in
        let e : i ≡ count * (i / count) + i % count = omega (arith, div-add-mod' i count) in
        ap (λ (n : ℕ). get_or (concat_map f (cut (cell_corners of) table)) n []) e
        ∙ at_joined f count (λ cell. length-map (places_of of) (corners_at cell)) (cut (cell_corners of) table) (i / count) (i % count) [] [] (rw (length_cut (cell_corners of) table) cell_below) part_below
        ∙ get_or_map (corners_at (get_or (cut (cell_corners of) table) (i / count) [])) (places_of of) (i % count) [] [] part_below

    pub length_part_in : length (get_or (parts_in of table) i []) ≡ part_corners of
    unfolding corners_at
    length_part_in = ap length part_is ∙ length-map _ _ ∙ part_size of (i % count) part_below

-- what the code reads: corner j of part i, at its place in the cell
pub record At (of : Parts) (table : List ℕ) (i j : ℕ) (cell : List ℕ) (at : ℕ) : Type 0 where
  pub within : at < length cell
  pub is : get_or cell at 0 ≡ get_or (get_or (parts_in of table) i []) j 0

module _ (of : Parts) (table : List ℕ) (i j : ℕ) (h : i < length (parts_in of table)) (l : j < part_corners of) where
  abbrev cell_of : List ℕ
  cell_of = get_or (cut (cell_corners of) table) (i / count of table) []

  located_in : At of table i j cell_of (place_of (places_of of) (i % count of table) j)
  unfolding corners_at
  located_in =
      let part = i % count of table in
      let k = cell_corners of in
      let listed : i / count of table < length (cut k table) = rw (length_cut k table) (cell_below of table i h) in
      record {
        within = rw (length_entry k table cell_of (get_or_in (cut k table) (i / count of table) [] listed)) (place_below of part (part_below of table i h) j l);
        is = sym (ap (λ (p : List ℕ). get_or p j 0) (part_is of table i h)
            ∙ get_or_map (λ (q : ℕ). get_or cell_of q 0) (get_or (places_of of) part []) j 0 0 (omega (arith, part_size of part (part_below of table i h))));
      }

pub located : (of : Parts) (table : List ℕ) (i j : ℕ) → i < length (parts_in of table) → {c n k p : ℕ} {cell : List ℕ} → c ≡ part_corners of → j < c
    → n ≡ length (places_of of) → k ≡ cell_corners of → cell ≡ take (k * (i / n) + k - k * (i / n)) (drop (k * (i / n)) table) → p ≡ place_of (places_of of) (i % n) j
    → At of table i j cell p
located of table i j h {c} {n} {k} {p} {cell} b l e s f q =
    let r : j < part_corners of = omega (arith, b) in
    let listed : i / count of table < length (cut (cell_corners of) table) = rw (length_cut (cell_corners of) table) (cell_below of table i h) in
    let g : cell ≡ cell_of of table i j h r = rw (e, s) at f ∙ entry_part (cell_corners of) (i / count of table) table listed in
    rw (g, rw e at q) (located_in of table i j h r)

-- ---- the walk

pub some_dimension : (of : Part) → 0 < dimension of
some_dimension Edge = lit< tt
some_dimension Face = lit< tt

-- a point has neither edges nor faces
no_points : (d : ℕ) → 0 < d → (cells : List (List ℕ)) → concat_map (λ (cell : List ℕ). map (corners_at cell) (places point d)) cells ≡ []
unfolding concat_map places by_dimension
no_points zero h cells = absurd (omega arith)
no_points (suc d) h [] = refl
no_points (suc d) h (cell ∷ cells) = no_points (suc d) h cells

-- the walk goes through hexes, quads and segments
pub met_tables : (d : ℕ) → 0 < d → (m : Mesh)
    → met (topology m) d ≡ parts_of hex d m.hexes ++ (parts_of quad d m.quads ++ parts_of segment d m.segments)
unfolding met topology parts_of concat_map
met_tables d h m = rw (no_points d h (cut 1 m.points), append-nil (parts_of segment d m.segments))

module _ (of : Part) (vs : List ℤ) (hs qs ss ps : List ℕ) where
  abbrev d : ℕ
  d = dimension of

  abbrev H : List (List ℕ)
  H = parts_of hex d hs

  abbrev Q : List (List ℕ)
  Q = parts_of quad d qs

  abbrev S : List (List ℕ)
  S = parts_of segment d ss

  abbrev walk : List (List ℕ)
  walk = met (topology (mesh vs hs qs ss ps)) d

  met_is : walk ≡ H ++ (Q ++ S)
  met_is = met_tables d (some_dimension of) (mesh vs hs qs ss ps)

  pub length_met : length walk ≡ length H + (length Q + length S)
  length_met = ap length met_is ∙ length-append H (Q ++ S) ∙ ap (λ (n : ℕ). length H + n) (length-append Q S)

  -- by the numbering's names, with the counts of two tables
  module _ {h : Parts} (nh : Named of hex h) where
    hexes_are : parts_in h hs ≡ H
    hexes_are = rw (nh.kind, nh.dim)

    module _ (i a : ℕ) (ea : a ≡ length (parts_in h hs)) where
      pub met_hex : i < a → get_or (parts_in h hs) i [] ≡ get_or walk i []
      met_hex l =
          ap (λ (ps : List (List ℕ)). get_or ps i []) hexes_are
          ∙ sym (ap (λ (ps : List (List ℕ)). get_or ps i []) met_is ∙ get_or-append H (Q ++ S) [] i (rw (ea, hexes_are) at l))

      module _ (la : a ≤ i) {q : Parts} (nq : Named of quad q) (b : ℕ) (eb : b ≡ length (parts_in q qs)) where
        quads_are : parts_in q qs ≡ Q
        quads_are = rw (nq.kind, nq.dim)

        pub met_quad : i - a < b → get_or (parts_in q qs) (i - a) [] ≡ get_or walk i []
        met_quad l =
            let e : length H + (i - a) ≡ i = omega (arith, ea, ap length hexes_are) in
            ap (λ (ps : List (List ℕ)). get_or ps (i - a) []) quads_are
            ∙ sym (ap (λ (n : ℕ). get_or walk n []) (sym e)
            ∙ ap (λ (ps : List (List ℕ)). get_or ps (length H + (i - a)) []) met_is
            ∙ get_or-append-add H (Q ++ S) (i - a) []
            ∙ get_or-append Q S [] (i - a) (rw (eb, quads_are) at l))

        module _ (lb : b ≤ i - a) {s : Parts} (ns : Named of segment s) where
          segments_are : parts_in s ss ≡ S
          segments_are = rw (ns.kind, ns.dim)

          pub met_segment : get_or (parts_in s ss) (i - a - b) [] ≡ get_or walk i []
          met_segment =
              let e : length H + (length Q + (i - a - b)) ≡ i = omega (arith, ea, eb, ap length hexes_are, ap length quads_are) in
              ap (λ (ps : List (List ℕ)). get_or ps (i - a - b) []) segments_are
              ∙ sym (ap (λ (n : ℕ). get_or walk n []) (sym e)
              ∙ ap (λ (ps : List (List ℕ)). get_or ps (length H + (length Q + (i - a - b))) []) met_is
              ∙ get_or-append-add H (Q ++ S) (length Q + (i - a - b)) []
              ∙ get_or-append-add Q S (i - a - b) [])

          pub segment_below : i < length walk → i - a - b < length (parts_in s ss)
          segment_below l = omega (arith, length_met, ea, eb, ap length hexes_are, ap length quads_are, ap length segments_are)

  pub length_named : {h q s : Parts} → Named of hex h → Named of quad q → Named of segment s
      → length (table_keys h hs) + length (table_keys q qs) + length (table_keys s ss) ≡ length walk
  length_named {h} {q} {s} nh nq ns =
      rw (all_counted h hs, all_counted q qs, all_counted s ss, nh.kind, nh.dim, nq.kind, nq.dim, ns.kind, ns.dim) (omega (arith, length_met))

-- ---- an edge has 2 corners, a face 4

abbrev Shaped : Part → Kind → Type 0
Shaped of κ = (p : List ℕ) → In p (places κ (dimension of)) → length p ≡ size_of of

abbrev shaped? : (of : Part) (κ : Kind) → Dec (Shaped of κ)
shaped? of κ = dec_each (λ (p : List ℕ). dec_number (length p) (size_of of)) (places κ (dimension of))

shaped : (of : Part) (κ : Kind) → Shaped of κ
unfolding places by_dimension whole up_from
shaped Edge hex = computed (shaped? Edge hex) tt
shaped Edge quad = computed (shaped? Edge quad) tt
shaped Edge segment = computed (shaped? Edge segment) tt
shaped Edge point = computed (shaped? Edge point) tt
shaped Face hex = computed (shaped? Face hex) tt
shaped Face quad = computed (shaped? Face quad) tt
shaped Face segment = computed (shaped? Face segment) tt
shaped Face point = computed (shaped? Face point) tt

pub length_part : (of : Part) (m : Mesh) (p : List ℕ) → In p (met (topology m) (dimension of)) → length p ≡ size_of of
unfolding parts_of corners_at
length_part of m p i =
    let d = dimension of in
    let Q = parts_of quad d m.quads in
    let S = parts_of segment d m.segments in
    ⊎_elim (in_table hex m.hexes) (λ (j : In p (Q ++ S)). ⊎_elim (in_table quad m.quads) (in_table segment m.segments) (in_append p Q S j))
    (in_append p (parts_of hex d m.hexes) (Q ++ S) (rw (met_tables d (some_dimension of) m) at i))
  where
    in_table : (κ : Kind) (table : List ℕ) → In p (parts_of κ (dimension of) table) → length p ≡ size_of of
    in_table κ table j =
        let c = in_concat_map (λ (cell : List ℕ). map (corners_at cell) (places κ (dimension of))) (cut (corners κ) table) p j in
        let r = in_map (corners_at c.0) (places κ (dimension of)) p c.2 in
        ap length r.2 ∙ length-map r.0 (λ (j : ℕ). get_or c.0 j 0) ∙ shaped of κ r.0 r.1
