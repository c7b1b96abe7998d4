-- One round: what splitting and averaging need, and what they leave. Assumes nothing.
use mathlib.Core.Path.{◌≡◌, sym, ap, subst, ◌∙◌}
use mathlib.Core.List.{List}
use Prim.Native.Nat.{ℕ, ◌+◌, ◌*◌, ◌/◌, ◌≤◌, ◌<◌}
use native.Mathlib.Omega.{arith}
use lib.ListN.{length, take}
use lib.IntN.{ℤ}
use Rattle.rules.specs.declared.Counts.{Counts}
use Rattle.rules.specs.declared.Sizes.{Sizes}
use Rattle.rules.specs.Lists.{concat, overwritten}
use Rattle.rules.specs.Mesh.{Mesh, mesh, Kind, hex, quad, segment, point, corners, topology, cells_of, mesh_of}
use Rattle.rules.specs.Split.{edges, faces, parts, split}
use Rattle.rules.specs.Averaging.{averaged, means, round}
use Rattle.rules.specs.Counts.{sizes, next_sizes, counts_in, counts_of}
use Rattle.rules.specs.Refusals.{count_out_of_range}
use Rattle.rules.specs.EntryPoints.{result_tables}
use Rattle.lists.proofs.Tables.{length_concat}
use Rattle.soundness.specs.Growth.{InRange}
use Rattle.soundness.proofs.SplitSizes.{split_sizes, length_numbered}
use Rattle.soundness.proofs.Rounds.{counts_now, in_range_lem, split_sized}
use Rattle.splitting.specs.Ready.{Places, Ready as Splittable}
use Rattle.averaging.specs.Ready.{table, Ready as Averageable}
use Rattle.rounds.specs.Ready.{Ready}
use Rattle.tables.proofs.Five.{same_mesh}
use Rattle.rounds.proofs.Turns.{begins}

-- how many cells of a kind there are among sizes
abbrev pub table_size : Sizes → Kind → ℕ
table_size s hex = s.hexes
table_size s quad = s.quads
table_size s segment = s.segments
table_size s point = s.points

module _ {m : Mesh} {s : Sizes} {out : Mesh} {words longs : List ℕ} (ready : Ready m s out words longs) where
  -- the sizes, by the lengths of the tables
  counts : counts_of m ≡ counts_in s
  counts = counts_now m ∙ ap counts_in (sym ready.sized)

  pub edges_are : s.edges ≡ length (edges (topology m))
  unfolding sizes
  edges_are = ap (λ (r : Sizes). r.edges) ready.sized

  pub faces_are : s.faces ≡ length (faces (topology m))
  unfolding sizes
  faces_are = ap (λ (r : Sizes). r.faces) ready.sized

  pub table_sizes : (length m.vertices / 3 ≡ s.vertices) × (length m.hexes / 8 ≡ s.hexes) × (length m.quads / 4 ≡ s.quads) × (length m.segments / 2 ≡ s.segments) × (length m.points ≡ s.points)
  unfolding counts_of counts_in
  table_sizes = (
    ap (λ (c : Counts). c.vertices) counts,
    ap (λ (c : Counts). c.hexes) counts,
    ap (λ (c : Counts). c.quads) counts,
    ap (λ (c : Counts). c.segments) counts,
    one (length m.points) ∙ ap (λ (c : Counts). c.points) counts,
  )
    where
      one : (n : ℕ) → n ≡ n / 1
      one n = omega arith

  pub next_range : InRange (counts_in (next_sizes s))
  next_range = in_range_lem (counts_in (next_sizes s)) ready.small

  -- the mesh after the round is small
  pub few_vertices : s.vertices + (s.edges + (s.faces + s.hexes)) ≤ 1_000_000
  unfolding next_sizes counts_in
  few_vertices = next_range.vertices

  pub some_vertex : 0 < s.vertices
  unfolding count_out_of_range counts_in
  some_vertex = subst (λ (c : Counts). 0 < c.vertices) counts (in_range_lem (counts_of m) ready.accepted.counted).some

  next_is : sizes (split (topology m)) ≡ next_sizes s
  next_is = split_sizes (topology m) ready.accepted.sound ∙ ap next_sizes (sym ready.sized)

  -- how many fine cells there are of a kind
  pub fine_count : (κ : Kind) → length (cells_of (split (topology m)) κ) ≡ table_size (next_sizes s) κ
  unfolding sizes
  fine_count hex = ap (λ (r : Sizes). r.hexes) next_is
  fine_count quad = ap (λ (r : Sizes). r.quads) next_is
  fine_count segment = ap (λ (r : Sizes). r.segments) next_is
  fine_count point = ap (λ (r : Sizes). r.points) next_is

  pub few_cells : (κ : Kind) → length (cells_of (split (topology m)) κ) ≤ 250_000
  unfolding counts_in
  few_cells hex = rw (fine_count hex) next_range.hexes
  few_cells quad = rw (fine_count quad) next_range.quads
  few_cells segment = rw (fine_count segment) next_range.segments
  few_cells point = rw (fine_count point) next_range.points

  -- the front of a table that the fine cells were stored in
  pub fine_table : (κ : Kind) (old : List ℕ) (n : ℕ) → n ≡ corners κ * table_size (next_sizes s) κ → take n (overwritten old (concat (cells_of (split (topology m)) κ))) ≡ concat (cells_of (split (topology m)) κ)
  fine_table κ old n e =
      begins n old (concat (cells_of (split (topology m)) κ))
      (length_concat (corners κ) (cells_of (split (topology m)) κ) (split_sized (topology m) κ) ∙ ap (λ (k : ℕ). corners κ * k) (fine_count κ) ∙ sym e)

  pub all_vertices : s.vertices + (s.edges + (s.faces + s.hexes)) ≡ length (parts (topology m))
  unfolding sizes
  all_vertices = ap (λ (r : Sizes). r.vertices + (r.edges + (r.faces + r.hexes))) ready.sized ∙ sym (length_numbered (topology m) ready.accepted.sound)

  -- ---- what splitting needs

  pub split_ready : Splittable m s.edges s.faces (length words)
  unfolding next_sizes counts_in
  split_ready =
      let z = table_sizes in
      record {
        sound = ready.accepted.sound;
        edges_are = edges_are;
        faces_are = faces_are;
        words_fit = omega (arith, ready.enough_words, some_vertex);
        vertices_few = omega (arith, z.0, z.1, few_vertices);
        quads_few = omega (arith, z.2, next_range.quads);
        segments_few = omega (arith, z.3, next_range.segments);
      }

  pub split_places : Places m (length out.hexes) (length out.quads) (length out.segments) (length out.points)
  unfolding next_sizes
  split_places =
      let z = table_sizes in
      let r = ready.room in
      record {
        hexes_fit = omega (arith, z.1, r.hexes);
        quads_fit = omega (arith, z.2, r.quads);
        segments_fit = omega (arith, z.3, r.segments);
        points_fit = omega (arith, z.4, r.points);
      }

  pub fine_small : (s.hexes ≤ 250_000) × (s.quads ≤ 250_000) × (s.segments ≤ 250_000)
  unfolding next_sizes counts_in
  fine_small = (omega (arith, next_range.hexes), omega (arith, next_range.quads), omega (arith, next_range.segments))

  -- ---- what averaging needs: the sizes of the finer mesh, as the code works them out

  module _ {n : Sizes} (e : n ≡ next_sizes s) where
    pub finer_places : (8 * n.hexes ≤ length out.hexes) × (4 * n.quads ≤ length out.quads) × (2 * n.segments ≤ length out.segments) × (n.points ≤ length out.points)
    finer_places = let r = ready.room in rw e (r.hexes, r.quads, r.segments, r.points)

    pub finer_small : (n.hexes ≤ 250_000) × (n.quads ≤ 250_000) × (n.segments ≤ 250_000)
    unfolding counts_in
    finer_small = rw e (next_range.hexes, next_range.quads, next_range.segments)

  module _ {n : Sizes} (e : n ≡ next_sizes s) (xs : List ℤ) (hs qs ss ps : List ℕ) (eh : hs ≡ overwritten out.hexes (concat (split (topology m)).hexes)) (eq : qs ≡ overwritten out.quads (concat (split (topology m)).quads)) (es : ss ≡ overwritten out.segments (concat (split (topology m)).segments)) (ep : ps ≡ overwritten out.points (concat (split (topology m)).points)) where
    fine_cells : (κ : Kind) → table (mesh xs (take (8 * n.hexes) hs) (take (4 * n.quads) qs) (take (2 * n.segments) ss) (take n.points ps)) κ ≡ concat (cells_of (split (topology m)) κ)
    fine_cells hex = ap (take (8 * n.hexes)) eh ∙ fine_table hex out.hexes (8 * n.hexes) (ap (λ (r : Sizes). 8 * r.hexes) e)
    fine_cells quad = ap (take (4 * n.quads)) eq ∙ fine_table quad out.quads (4 * n.quads) (ap (λ (r : Sizes). 4 * r.quads) e)
    fine_cells segment = ap (take (2 * n.segments)) es ∙ fine_table segment out.segments (2 * n.segments) (ap (λ (r : Sizes). 2 * r.segments) e)
    fine_cells point = ap (take n.points) ep ∙ fine_table point out.points n.points (ap (λ (r : Sizes). r.points) e ∙ omega arith)

    pub average_ready : (ws : List ℕ) → length ws ≡ length words → Averageable m (mesh xs (take (8 * n.hexes) hs) (take (4 * n.quads) qs) (take (2 * n.segments) ss) (take n.points ps)) n.vertices (length ws) (length longs) (length out.vertices)
    unfolding next_sizes
    average_ready ws long =
        let r = ready.room in
        let v : n.vertices ≡ (next_sizes s).vertices = ap (λ (x : Sizes). x.vertices) e in
        record {
          sound = ready.accepted.sound;
          near = ready.accepted.near;
          cells = fine_cells;
          few = few_cells;
          counted = v ∙ all_vertices;
          words_fit = omega (arith, v, long, ready.enough_words);
          longs_fit = omega (arith, v, ready.enough_longs);
          out_fits = omega (arith, v, r.vertices);
        }

-- what the two leave is the round
pub round_holds : (m old : Mesh) (xs : List ℤ) (hs qs ss ps : List ℕ) → xs ≡ overwritten old.vertices (averaged (means (topology m)) m.vertices) → hs ≡ overwritten old.hexes (concat (split (topology m)).hexes) → qs ≡ overwritten old.quads (concat (split (topology m)).quads) → ss ≡ overwritten old.segments (concat (split (topology m)).segments) → ps ≡ overwritten old.points (concat (split (topology m)).points) → mesh xs hs qs ss ps ≡ result_tables 0 old (round m)
unfolding round mesh_of result_tables
round_holds m old xs hs qs ss ps a b c d e = same_mesh a b c d e
