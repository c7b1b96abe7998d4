-- The rounds of a sound mesh whose coordinates are in range leave them in range.
use mathlib.Core.Path.{◌≡◌, subst}
use mathlib.Core.Bool.{false}
use mathlib.Core.Logic.{◌↔◌}
use mathlib.Core.List.{List}
use Prim.Native.Nat.{ℕ, ◌+◌, ◌*◌, ◌/◌, ◌%◌, ◌<◌}
use native.Mathlib.Omega.{arith}
use native.Mathlib.Nat.{mod-lt, div-add-mod}
use lib.ListN.{length, get_or}
use lib.IntN.{ℤ, pos, negsuc}
use Rattle.rules.specs.Mesh.{Mesh, topology}
use Rattle.rules.specs.Means.{coordinate}
use Rattle.rules.specs.Averaging.{axis, refined, rounds_of}
use Rattle.rules.specs.Refusals.{outside, coordinate_out_of_range}
use Rattle.lists.proofs.Tests.{none_at, at_none}
use Rattle.integers.specs.Range.{InRange}
use Rattle.integers.proofs.Range.{inside, range_order}
use Rattle.rounding.proofs.Box.{Between, written_between}
use Rattle.soundness.specs.Sound.{Sound}
use Rattle.accuracy.proofs.Axes.{length_axis, axis_at}
use Rattle.accuracy.proofs.Rounds.{written_below, written_at}
use Rattle.accuracy.proofs.Property3.{rounds_good}

abbrev pub AllInRange : List ℤ → Type 0
AllInRange xs = (p : ℕ) → p < length xs → InRange (get_or xs p (pos 0))

-- refusal 3 is given unless all are in range
pub all_in_range : (m : Mesh) → (coordinate_out_of_range m ≡ false) ↔ AllInRange m.vertices
unfolding coordinate_out_of_range
all_in_range m = (
  λ t p l. (inside (get_or m.vertices p (pos 0))).0 (none_at outside m.vertices (pos 0) t p l),
  λ r. at_none outside m.vertices (pos 0) (λ p l. (inside (get_or m.vertices p (pos 0))).1 (r p l)),
)

module _ (m : Mesh) (s : Sound (topology m)) (whole : length m.vertices % 3 ≡ 0) (r : AllInRange m.vertices) where
  lo : ℤ
  lo = negsuc 536_870_911

  hi : ℤ
  hi = pos 536_870_911

  first : (a : ℕ) → a < 3 → (u : ℕ) → u < length (axis a m.vertices) → Between lo hi (coordinate (axis a m.vertices) u)
  unfolding lo hi
  first a h u l =
      let q : u < length m.vertices / 3 = omega (arith, length_axis a m.vertices) in
      rw (axis_at a m.vertices u h q) ((range_order _).0 (r (3 * u + a) (omega arith)))

  pub refined_range : (k : ℕ) → AllInRange (refined k m).vertices
  unfolding lo hi
  refined_range k p l =
      let a = p % 3 in
      let v = p / 3 in
      let ws = (refined k m).vertices in
      let xs = axis a m.vertices in
      let h : a < 3 = mod-lt p (omega arith) in
      let place : 3 * v + a ≡ p = div-add-mod p 3 in
      let there : 3 * v + a < length ws = rw place l in
      let w = written_between (length xs) lo hi (rounds_of k (topology m)) xs (rounds_good k m a s) (first a h) v (written_below k m whole a v h there) in
      rw place at ((range_order (get_or ws (3 * v + a) (pos 0))).1 (subst (Between lo hi) (written_at k m whole a v h there) w))
