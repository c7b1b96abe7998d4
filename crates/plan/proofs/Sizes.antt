-- The sizes of a mesh that passed the checks fit the sums of some rounds. Assumes nothing.
use mathlib.Core.Path.{◌≡◌, subst}
use mathlib.Core.Bool.{false}
use mathlib.Core.List.{List, [], ◌++◌, map}
use Prim.Native.Nat.{ℕ, ◌+◌, ◌*◌, ◌^◌, ◌≤◌}
use native.Mathlib.Omega.{arith}
use lib.ListN.{length, length-append, length-map}
use Rattle.rules.specs.declared.Counts.{Counts}
use Rattle.rules.specs.Lists.{concat_map, up_from, key_of}
use Rattle.rules.specs.Mesh.{Mesh, Kind, hex, quad, segment, point, Topology, topology, cells_of, whole, singles, by_dimension, places}
use Rattle.rules.specs.Split.{corners_at, met, distinct_parts}
use Rattle.rules.specs.Counts.{sizes, counts_in, out_of_range}
use Rattle.rules.specs.Refusals.{count_out_of_range}
use Rattle.lists.proofs.Once.{length_concat_map}
use Rattle.lists.proofs.Distinct.{distinct_length}
use Rattle.soundness.specs.Accepted.{Accepted}
use Rattle.soundness.proofs.Rounds.{counts_now, in_range_lem}
use Rattle.counting.specs.Bounded.{Bounded}

parts_of : (t : Topology) (d : ℕ) (κ : Kind) → List (List ℕ)
parts_of t d κ = concat_map (λ (cell : List ℕ). map (corners_at cell) (places κ d)) (cells_of t κ)

parts_count : (t : Topology) (d : ℕ) (κ : Kind) → length (parts_of t d κ) ≡ length (places κ d) * length (cells_of t κ)
unfolding parts_of
parts_count t d κ = length_concat_map (λ (cell : List ℕ). map (corners_at cell) (places κ d)) (length (places κ d)) (cells_of t κ) (λ cell i. length-map (places κ d) (corners_at cell))

met_count : (t : Topology) (d : ℕ) → length (met t d) ≡ length (places hex d) * length t.hexes + (length (places quad d) * length t.quads + (length (places segment d) * length t.segments + length (places point d) * length t.points))
unfolding met concat_map parts_of
met_count t d =
    let p = parts_of t d in
    omega (arith, length-append (p hex) (p quad ++ (p segment ++ (p point ++ []))), length-append (p quad) (p segment ++ (p point ++ [])), length-append (p segment) (p point ++ []), length-append (p point) [], parts_count t d hex, parts_count t d quad, parts_count t d segment, parts_count t d point)

few_parts : (t : Topology) (d : ℕ) → length (distinct_parts t d) ≤ length (met t d)
unfolding distinct_parts
few_parts t d = omega (arith, distinct_length (map key_of (met t d)), length-map (met t d) key_of)

pub accepted_bounded : (m : Mesh) → Accepted m → Bounded (2 ^ 23) (sizes (topology m))
unfolding sizes count_out_of_range counts_in places by_dimension singles whole up_from
accepted_bounded m a =
    let t = topology m in
    let e = counts_now m in
    let r = in_range_lem (counts_in (sizes t)) (subst (λ (c : Counts). out_of_range c ≡ false) e a.counted) in
    record {
      vertices = omega (arith, r.vertices);
      edges = omega (arith, r.hexes, r.quads, r.segments, few_parts t 1, met_count t 1);
      faces = omega (arith, r.hexes, r.quads, r.segments, few_parts t 2, met_count t 2);
      hexes = omega (arith, r.hexes);
      quads = omega (arith, r.quads);
      segments = omega (arith, r.segments);
      points = omega (arith, r.points);
    }
