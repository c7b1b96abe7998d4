-- The sizes of a split are those of rule 5.2, and sizes never fall. Assumes nothing.
use mathlib.Core.Path.{◌≡◌, refl, sym, ap, ◌∙◌, subst}
use mathlib.Core.Logic.{inl, inr}
use mathlib.Core.List.{◌++◌}
use Prim.Native.Nat.{ℕ, zero, suc, ◌+◌, ◌*◌, ◌-◌, ◌≤◌}
use native.Mathlib.Nat.{zero-add, suc-add}
use native.Mathlib.Omega.{arith}
use lib.ListN.{length, length-map, length-append}
use Rattle.rules.specs.Lists.{key_of}
use Rattle.rules.specs.Mesh.{Kind, hex, quad, segment, point, corners, whole, singles, Topology, cells_of}
use Rattle.rules.specs.Split.{distinct_parts, edges, faces, parts, children, split_by, split}
use Rattle.rules.specs.declared.Sizes.{Sizes}
use Rattle.rules.specs.Counts.{sizes, next_sizes, sizes_after}
use Rattle.lists.proofs.Once.{length_concat_map}
use Rattle.soundness.specs.Sound.{Sound}
use Rattle.soundness.specs.Growth.{AtMost}
use Rattle.soundness.proofs.Cells.{child_at, length_whole, tops, cells_split}
use Rattle.soundness.proofs.FineCounts.{count_parts}
use Rattle.soundness.proofs.Numbers.{length_singles, hexes_listed}

-- ---- in any topology

-- a cell has as many children as corners
pub length_cells : (t : Topology) (κ : Kind) → length (cells_of (split t) κ) ≡ corners κ * length (cells_of t κ)
unfolding children
length_cells t κ =
    ap length (cells_split t κ)
    ∙ length_concat_map (children (parts t) κ) (corners κ) (cells_of t κ) (λ c i. length-map (whole κ) (child_at t κ c) ∙ length_whole κ)

pub length_parts : (t : Topology) → length (parts t) ≡ t.vertex_count + (length (edges t) + (length (faces t) + length (distinct_parts t 3)))
unfolding parts
length_parts t =
    let a = length-append (singles t.vertex_count) (tops t) in
    let b = length_singles t.vertex_count in
    let c = length-append (edges t) (faces t ++ distinct_parts t 3) in
    let d = length-append (faces t) (distinct_parts t 3) in
    omega arith

-- ---- of a sound one

module _ (t : Topology) (s : Sound t) where
  hexes_are : length (distinct_parts t 3) ≡ length t.hexes
  hexes_are = ap length (hexes_listed t s) ∙ length-map t.hexes key_of

  pub length_numbered : length (parts t) ≡ t.vertex_count + (length (edges t) + (length (faces t) + length t.hexes))
  length_numbered = omega (arith, length_parts t, hexes_are)

  pub split_sizes : sizes (split t) ≡ next_sizes (sizes t)
  unfolding sizes next_sizes split split_by
  split_sizes =
      let h = hexes_are in
      let e = count_parts t s 1 (inl refl) in
      let f = count_parts t s 2 (inr (inl refl)) in
      let v = length_numbered in
      let n : length (edges (split t)) ≡ 2 * length (edges t) + (4 * length (faces t) + 6 * length t.hexes) = omega arith in
      let m : length (faces (split t)) ≡ 4 * length (faces t) + 12 * length t.hexes = omega arith in
      let p : length (cells_of (split t) point) ≡ length t.points = omega (arith, length_cells t point) in
      rw (n, m, length_cells t hex, length_cells t quad, length_cells t segment, p, v)

-- ---- round after round

next_grows : (s : Sizes) → AtMost s (next_sizes s)
unfolding next_sizes
next_grows s = omega arith

pub after_grows : (n : ℕ) (s : Sizes) → AtMost s (sizes_after n s)
unfolding sizes_after
after_grows zero s = omega arith
after_grows (suc n) s =
    let a = next_grows s in
    let b = after_grows n (next_sizes s) in
    omega arith

pub after_more : (k n : ℕ) (s : Sizes) → sizes_after (k + n) s ≡ sizes_after n (sizes_after k s)
unfolding sizes_after
after_more zero n s = ap (λ (z : ℕ). sizes_after z s) (zero-add n)
after_more (suc k) n s = ap (λ (z : ℕ). sizes_after z s) (suc-add k n) ∙ after_more k n (next_sizes s)

-- one round more, at the end
pub after_suc : (n : ℕ) (s : Sizes) → sizes_after (suc n) s ≡ next_sizes (sizes_after n s)
unfolding sizes_after
after_suc zero s = refl
after_suc (suc n) s = after_suc n (next_sizes s)

-- no size falls from one round to a later one
pub never_fall : (k n : ℕ) (s : Sizes) → k ≤ n → AtMost (sizes_after k s) (sizes_after n s)
never_fall k n s l =
    let e : n ≡ k + (n - k) = omega arith in
    subst (λ (z : ℕ). AtMost (sizes_after k s) (sizes_after z s)) (sym e) (rw (after_more k (n - k) s) (after_grows (n - k) (sizes_after k s)))
