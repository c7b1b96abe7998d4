-- Meshes, round after round: a round of a mesh splits its topology, and the finished counts are those foretold. Assumes nothing.
use mathlib.Core.Path.{◌≡◌, refl, sym, ap, ◌∙◌, subst}
use mathlib.Core.Bool.{false, not, ◌||◌}
use mathlib.Core.List.{List, [], ◌∷◌}
use Prim.Native.Nat.{ℕ, zero, suc, ◌*◌, ◌/◌, ◌%◌, ◌<◌, ◌≤◌}
use native.Mathlib.Nat.{mul-mod_right}
use native.Mathlib.Omega.{arith}
use lib.ListN.{length, length-map}
use lib.IntN.{ℤ}
use lib.Dec.{eqb, ltb}
use borrow.Author.Tests.{eqb-false, ne_eqb, eq-eqb, ltb-false, le-ltb}
use Rattle.rules.specs.declared.Counts.{Counts}
use Rattle.rules.specs.Lists.{concat, up_from}
use Rattle.rules.specs.Mesh.{Mesh, hex, quad, segment, point, Topology, topology, mesh_of}
use Rattle.rules.specs.Split.{parts, split_by, split}
use Rattle.rules.specs.Means.{Mean, Round, rounded}
use Rattle.rules.specs.Averaging.{mean_at, means, axis, averaged, round, refined}
use Rattle.rules.specs.Counts.{sizes, next_sizes, sizes_after, counts_in, counts_of, finished_counts, out_of_range}
use Rattle.rules.specs.Refusals.{partial_entry, count_out_of_range, coordinate_out_of_range, too_large}
use Rattle.lists.proofs.Membership.{length_up_from}
use Rattle.lists.proofs.Once.{length_concat_map}
use Rattle.lists.proofs.Tests.{or_neither}
use Rattle.lists.proofs.Tables.{length_cut, length_concat, cut_concat}
use Rattle.soundness.specs.Sound.{Sound}
use Rattle.soundness.specs.Growth.{InRange}
use Rattle.soundness.specs.Accepted.{Accepted}
use Rattle.soundness.proofs.Cells.{length_child, is_child}
use Rattle.soundness.proofs.Checks.{Sized}
use Rattle.soundness.proofs.SplitSound.{split_sound}
use Rattle.soundness.proofs.SplitSizes.{split_sizes, after_suc, after_grows, never_fall}

-- ---- a mesh of given cells

pub topology_mesh_of : (xs : List ℤ) (t : Topology) → Sized t → length xs ≡ 3 * t.vertex_count → topology (mesh_of xs t) ≡ t
unfolding topology mesh_of
topology_mesh_of xs t z e =
    let v : length xs / 3 ≡ t.vertex_count = omega arith in
    let h = cut_concat 8 t.hexes (omega arith) (z hex) in
    let q = cut_concat 4 t.quads (omega arith) (z quad) in
    let s = cut_concat 2 t.segments (omega arith) (z segment) in
    let p = cut_concat 1 t.points (omega arith) (z point) in
    rw (v, h, q, s, p)

-- ---- one round

pub split_sized : (t : Topology) → Sized (split t)
split_sized t κ c i = let a = is_child t κ c i in ap length a.is ∙ length_child t κ a.parent a.number

pub length_averaged : (r : Round) (xs : List ℤ) → length (averaged r xs) ≡ 3 * length r
unfolding averaged
length_averaged r xs = length_concat_map (λ (m : Mean). rounded (axis 0 xs) m ∷ rounded (axis 1 xs) m ∷ rounded (axis 2 xs) m ∷ []) 3 r (λ m i. refl)

pub length_means : (t : Topology) → length (means t) ≡ length (parts t)
unfolding means
length_means t = length-map (up_from 0 (length (parts t))) (mean_at (parts t) (split_by (parts t) t)) ∙ length_up_from 0 (length (parts t))

-- a round of any mesh splits its topology
pub round_topology : (m : Mesh) → topology (round m) ≡ split (topology m)
unfolding round split split_by
round_topology m =
    let t = topology m in
    topology_mesh_of (averaged (means t) m.vertices) (split t) (split_sized t)
    (length_averaged (means t) m.vertices ∙ ap (λ (n : ℕ). 3 * n) (length_means t))

-- ---- several rounds

pub refined_sound : (n : ℕ) (m : Mesh) → Sound (topology m) → Sound (topology (refined n m))
unfolding refined
refined_sound zero m s = s
refined_sound (suc n) m s = subst Sound (sym (round_topology (refined n m))) (split_sound (topology (refined n m)) (refined_sound n m s))

pub refined_sizes : (n : ℕ) (m : Mesh) → Sound (topology m) → sizes (topology (refined n m)) ≡ sizes_after n (sizes (topology m))
unfolding refined sizes_after
refined_sizes zero m s = refl
refined_sizes (suc n) m s =
    ap sizes (round_topology (refined n m))
    ∙ split_sizes (topology (refined n m)) (refined_sound n m s)
    ∙ ap next_sizes (refined_sizes n m s)
    ∙ sym (after_suc n (sizes (topology m)))

-- ---- the five counts

-- the counts of a mesh's tables are those of its topology
pub counts_now : (m : Mesh) → counts_of m ≡ counts_in (sizes (topology m))
unfolding counts_of counts_in sizes topology
counts_now m = rw (length_cut 8 m.hexes, length_cut 4 m.quads, length_cut 2 m.segments, length_cut 1 m.points)

-- the finished counts, known before any round
pub refined_counts : (n : ℕ) (m : Mesh) → Sound (topology m) → counts_of (refined n m) ≡ finished_counts n (topology m)
unfolding finished_counts
refined_counts n m s = counts_now (refined n m) ∙ ap counts_in (refined_sizes n m s)

-- ---- the ranges

pub in_range_lem : (c : Counts) → out_of_range c ≡ false → InRange c
unfolding out_of_range
in_range_lem c h =
    let a =
    or_neither (eqb c.vertices 0)
    (ltb 1_000_000 c.vertices ||
    (ltb 250_000 c.hexes || (ltb 250_000 c.quads || (ltb 250_000 c.segments || ltb 250_000 c.points)))) h in
    let b =
    or_neither (ltb 1_000_000 c.vertices)
    (ltb 250_000 c.hexes || (ltb 250_000 c.quads || (ltb 250_000 c.segments || ltb 250_000 c.points))) a.1 in
    let d = or_neither (ltb 250_000 c.hexes) (ltb 250_000 c.quads || (ltb 250_000 c.segments || ltb 250_000 c.points)) b.1 in
    let e = or_neither (ltb 250_000 c.quads) (ltb 250_000 c.segments || ltb 250_000 c.points) d.1 in
    let f = or_neither (ltb 250_000 c.segments) (ltb 250_000 c.points) e.1 in
    record {
      some = omega (arith, eqb-false c.vertices 0 a.0);
      vertices = ltb-false 1_000_000 c.vertices b.0;
      hexes = ltb-false 250_000 c.hexes d.0;
      quads = ltb-false 250_000 c.quads e.0;
      segments = ltb-false 250_000 c.segments f.0;
      points = ltb-false 250_000 c.points f.1;
    }

pub range_in : (c : Counts) → InRange c → out_of_range c ≡ false
unfolding out_of_range
range_in c r =
    let a = ne_eqb c.vertices 0 (λ e. omega arith) in
    let b = le-ltb 1_000_000 c.vertices r.vertices in
    let d = le-ltb 250_000 c.hexes r.hexes in
    let e = le-ltb 250_000 c.quads r.quads in
    let f = le-ltb 250_000 c.segments r.segments in
    let g = le-ltb 250_000 c.points r.points in
    rw (a, b, d, e, f, g)

-- Sizes never fall: where the finished counts are in their ranges, so are those after fewer rounds.
pub too_large_before : (k n : ℕ) (t : Topology) → k ≤ n → 0 < t.vertex_count → too_large n t ≡ false → too_large k t ≡ false
unfolding too_large sizes finished_counts counts_in
too_large_before k n t i l h =
    let s = sizes t in
    let a = after_grows k s in
    let b = never_fall k n s i in
    let r = in_range_lem (finished_counts n t) h in
    range_in (finished_counts k t)
    (record { some = omega arith; vertices = omega arith; hexes = omega arith; quads = omega arith; segments = omega arith; points = omega arith })

-- ---- the finished mesh passes the checks again

-- a table of whole entries, as a test
entire : (xs k n : ℕ) → 0 < k → xs ≡ k * n → not (eqb (xs % k) 0) ≡ false
entire xs k n l e = ap not (eq-eqb (xs % k) 0 (ap (λ (x : ℕ). x % k) e ∙ mul-mod_right k n))

pub round_entire : (m : Mesh) → partial_entry (round m) ≡ false
unfolding partial_entry round mesh_of
round_entire m =
    let t = topology m in
    let z = split_sized t in
    let v = entire (length (averaged (means t) m.vertices)) 3 (length (means t)) (omega arith) (length_averaged (means t) m.vertices) in
    let h = entire (length (concat (split t).hexes)) 8 (length (split t).hexes) (omega arith) (length_concat 8 (split t).hexes (z hex)) in
    let q = entire (length (concat (split t).quads)) 4 (length (split t).quads) (omega arith) (length_concat 4 (split t).quads (z quad)) in
    let s =
    entire (length (concat (split t).segments)) 2 (length (split t).segments) (omega arith)
    (length_concat 2 (split t).segments (z segment)) in
    rw (v, h, q, s)

pub refined_entire : (n : ℕ) (m : Mesh) → partial_entry m ≡ false → partial_entry (refined n m) ≡ false
unfolding refined
refined_entire zero m h = h
refined_entire (suc n) m h = round_entire (refined n m)

-- the counts after n rounds are out of range just where check 10 says so
pub refined_range : (n : ℕ) (m : Mesh) → Sound (topology m) → count_out_of_range (refined n m) ≡ too_large n (topology m)
unfolding count_out_of_range too_large
refined_range n m s = ap out_of_range (refined_counts n m s)

-- A mesh that passes the checks, refined and not too large, passes them again; check 3 by a law of its own.
pub refined_accepted :
    (n : ℕ) (m : Mesh) → Accepted m → too_large n (topology m) ≡ false → coordinate_out_of_range (refined n m) ≡ false → Accepted (refined n m)
refined_accepted n m a h k = record {
  entire = refined_entire n m a.entire;
  counted = refined_range n m a.sound ∙ h;
  near = k;
  sound = refined_sound n m a.sound;
}
