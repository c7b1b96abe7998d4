-- The topology and the coordinates of a mesh after some rounds, axis by axis.
use mathlib.Core.Path.{◌≡◌, refl, sym, ap, ◌∙◌, subst}
use mathlib.Core.List.{List, map}
use Prim.Native.Nat.{ℕ, zero, suc, ◌+◌, ◌*◌, ◌/◌, ◌%◌, ◌<◌}
use native.Mathlib.Omega.{arith}
use lib.ListN.{length, get_or}
use lib.IntN.{ℤ, pos}
use Rattle.rules.specs.Mesh.{Mesh, Topology, topology, mesh_of}
use Rattle.rules.specs.Split.{split_by, split}
use Rattle.rules.specs.Means.{coordinate, rounded}
use Rattle.rules.specs.Averaging.{means, axis, round, refined, split_times, rounds_of}
use Rattle.rounding.specs.Good.{count}
use Rattle.rounding.specs.Written.{written}
use Rattle.soundness.specs.Sound.{Sound}
use Rattle.soundness.proofs.SplitSound.{split_sound}
use Rattle.soundness.proofs.Rounds.{length_averaged, length_means, round_topology}
use Rattle.accuracy.proofs.Axes.{length_axis, axis_at, axis_averaged}

-- a round has a mean for each fine vertex
pub vertex_means : (t : Topology) → length (means t) ≡ (split t).vertex_count
unfolding split split_by
vertex_means t = length_means t

pub length_rounds : (k : ℕ) (t : Topology) → length (rounds_of k t) ≡ k
unfolding rounds_of
length_rounds zero t = refl
length_rounds (suc k) t = ap suc (length_rounds k t)

-- no coordinate decides the topology
pub refined_topology : (k : ℕ) (m : Mesh) → topology (refined k m) ≡ split_times k (topology m)
unfolding refined split_times
refined_topology zero m = refl
refined_topology (suc k) m = round_topology (refined k m) ∙ ap split (refined_topology k m)

pub times_sound : (k : ℕ) (t : Topology) → Sound t → Sound (split_times k t)
unfolding split_times
times_sound zero t s = s
times_sound (suc k) t s = split_sound (split_times k t) (times_sound k t s)

-- how many vertices there are after k rounds
pub count_rounds : (k : ℕ) (m : Mesh) (a : ℕ) → count (length (axis a m.vertices)) (rounds_of k (topology m)) ≡ (split_times k (topology m)).vertex_count
unfolding rounds_of split_times topology
count_rounds zero m a = length_axis a m.vertices
count_rounds (suc k) m a = vertex_means (split_times k (topology m))

-- each axis is what the rounds of means leave of it
pub refined_written : (k : ℕ) (m : Mesh) (a : ℕ) → a < 3 → axis a (refined k m).vertices ≡ written (rounds_of k (topology m)) (axis a m.vertices)
unfolding refined rounds_of written round mesh_of
refined_written zero m a h = refl
refined_written (suc k) m a h =
    let n = refined k m in
    axis_averaged a (means (topology n)) n.vertices h
    ∙ ap (λ (t : Topology). map (rounded (axis a n.vertices)) (means t)) (refined_topology k m)
    ∙ ap (λ (xs : List ℤ). map (rounded xs) (means (split_times k (topology m)))) (refined_written k m a h)

-- the table of vertices stays whole
pub whole_vertices : (k : ℕ) (m : Mesh) → length m.vertices % 3 ≡ 0 → length (refined k m).vertices % 3 ≡ 0
unfolding refined round mesh_of
whole_vertices zero m h = h
whole_vertices (suc k) m h = let n = refined k m in omega (arith, length_averaged (means (topology n)) n.vertices)

-- the coordinate of vertex v on axis a, in the flat table and by the rounds of means
module _ (k : ℕ) (m : Mesh) (whole : length m.vertices % 3 ≡ 0) (a v : ℕ) (h : a < 3) (l : 3 * v + a < length (refined k m).vertices) where
  below : v < length (refined k m).vertices / 3
  below = omega (arith, whole_vertices k m whole)

  pub vertex_below : v < (split_times k (topology m)).vertex_count
  unfolding topology
  vertex_below = subst (λ (t : Topology). v < t.vertex_count) (refined_topology k m) below

  pub written_below : v < count (length (axis a m.vertices)) (rounds_of k (topology m))
  written_below = rw (count_rounds k m a) vertex_below

  pub written_at : coordinate (written (rounds_of k (topology m)) (axis a m.vertices)) v ≡ get_or (refined k m).vertices (3 * v + a) (pos 0)
  written_at = ap (λ (ys : List ℤ). coordinate ys v) (sym (refined_written k m a h)) ∙ axis_at a (refined k m).vertices v h below
