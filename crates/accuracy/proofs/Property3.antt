-- The third property holds of the rounds of a sound mesh.
use mathlib.Core.Path.{◌≡◌, refl, ◌∙◌, subst}
use mathlib.Core.Bool.{true, ◌&&◌}
use mathlib.Core.List.{List}
use Prim.Native.Nat.{ℕ, zero, suc, ◌+◌, ◌*◌, ◌/◌, ◌%◌, ◌<◌}
use native.Mathlib.Omega.{arith}
use native.Mathlib.Nat.{mod-lt, div-add-mod}
use lib.ListN.{length, get_or}
use lib.IntN.{ℤ, pos}
use Rattle.rules.specs.Lists.{up_from}
use Rattle.rules.specs.Mesh.{Mesh, topology}
use Rattle.rules.specs.Means.{coordinate}
use Rattle.rules.specs.Averaging.{axis, refined, rounds_of, split_times}
use Rattle.rules.specs.Accuracy.{exact, exact_divisor, has_remainder, in_box, accurate, accurate_at, accuracies, Property3}
use Rattle.lists.proofs.Membership.{in_up_from, map_same, run_same}
use Rattle.rounding.specs.Good.{GoodRounds}
use Rattle.rounding.proofs.Accurate.{accurate_rounds}
use Rattle.soundness.specs.Sound.{Sound}
use Rattle.accuracy.proofs.Rounds.{length_rounds, times_sound, count_rounds, vertex_below, written_below, written_at}
use Rattle.accuracy.proofs.Means.{means_good}
use Rattle.accuracy.proofs.Feeding.{no_remainder}

pub rounds_good : (k : ℕ) (m : Mesh) (a : ℕ) → Sound (topology m) → GoodRounds (length (axis a m.vertices)) (rounds_of k (topology m))
unfolding rounds_of
rounds_good zero m a s = tt
rounds_good (suc k) m a s =
    let t = topology m in (rw (count_rounds k m a) (means_good (split_times k t) (times_sound k t s)), rounds_good k m a s)

module _ (k : ℕ) (m : Mesh) (s : Sound (topology m)) (whole : length m.vertices % 3 ≡ 0) where
  abbrev table : List ℤ
  table = (refined k m).vertices

  -- the coordinate of vertex v on axis a
  vertex_accurate : (a v : ℕ) → a < 3 → 3 * v + a < length table → accurate_at k m a v (get_or table (3 * v + a) (pos 0)) ≡ true
  unfolding accurate_at
  vertex_accurate a v h l =
      let xs = axis a m.vertices in
      let rs = rounds_of k (topology m) in
      let fed = has_remainder k m a v in
      let claim : ℕ → ℤ → Type 0 = λ j w. (accurate fed j (coordinate (exact rs xs) v) (exact_divisor rs) w && in_box xs w) ≡ true in
      subst (λ (j : ℕ). claim j (get_or table (3 * v + a) (pos 0))) (length_rounds k (topology m))
      (subst (claim (length rs)) (written_at k m whole a v h l)
      (accurate_rounds rs xs v fed (rounds_good k m a s) (written_below k m whole a v h l) (no_remainder m s a h k v (vertex_below k m whole a v h l))))

  -- the coordinate at a place of the table
  place_accurate : (p : ℕ) → p < length table → accurate_at k m (p % 3) (p / 3) (get_or table p (pos 0)) ≡ true
  place_accurate p l =
      let is : 3 * (p / 3) + p % 3 ≡ p = div-add-mod p 3 in
      subst (λ (q : ℕ). accurate_at k m (p % 3) (p / 3) (get_or table q (pos 0)) ≡ true) is
      (vertex_accurate (p % 3) (p / 3) (mod-lt p (omega arith)) (rw is l))

  pub property_3 : Property3 k m table
  unfolding accuracies
  property_3 =
      let n = length table in
      map_same (λ (p : ℕ). accurate_at k m (p % 3) (p / 3) (get_or table p (pos 0))) (λ (p : ℕ). true) (up_from 0 n)
      (λ p i. place_accurate p (omega (arith, in_up_from 0 n p i)))
      ∙ run_same (λ (p : ℕ). true) true 0 n (λ p. refl)
