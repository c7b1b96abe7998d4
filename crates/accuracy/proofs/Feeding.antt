-- No division that feeds a vertex left a remainder exactly when the rounds of means say so.
use mathlib.Core.Path.{◌≡◌, sym, ap, ◌∙◌}
use mathlib.Core.Bool.{Bool, false}
use mathlib.Core.Logic.{◌↔◌}
use mathlib.Core.List.{List}
use Prim.Native.Nat.{ℕ, zero, suc, ◌<◌}
use native.Mathlib.Omega.{arith}
use borrow.Author.Tests.{ltb-false, le-ltb}
use lib.IntN.{ℤ}
use lib.Dec.{ltb}
use Rattle.rules.specs.Lists.{Each}
use Rattle.rules.specs.Mesh.{Mesh, Topology, topology}
use Rattle.rules.specs.Means.{Draw, no_mean, mean_of, remainder}
use Rattle.rules.specs.Averaging.{means, axis, refined, split_times, rounds_of}
use Rattle.rules.specs.Accuracy.{draws_on, Division, feeding, left, has_remainder}
use Rattle.lists.proofs.Each.{each_at, each_in, each_concat_map}
use Rattle.lists.proofs.Tests.{none_in, in_none}
use Rattle.rounding.specs.Good.{GoodDraw, GoodMean}
use Rattle.rounding.specs.Written.{written, NoRemainder}
use Rattle.soundness.specs.Sound.{Sound}
use Rattle.accuracy.proofs.Means.{means_good}
use Rattle.accuracy.proofs.Drawn.{each_drawn}
use Rattle.accuracy.proofs.Rounds.{vertex_means, refined_topology, times_sound, refined_written}

module _ (m : Mesh) (s : Sound (topology m)) (a : ℕ) (h : a < 3) where
  abbrev t : Topology
  t = topology m

  abbrev xs : List ℤ
  xs = axis a m.vertices

  -- what a division leaves, by the rounds of means
  left_is : (d : Division) → left m a d ≡ remainder (written (rounds_of d.before t) xs) (mean_of (means (split_times d.before t)) d.vertex)
  unfolding left
  left_is d =
      let k = d.before in
      ap (λ (ws : List ℤ). remainder ws (mean_of (means (topology (refined k m))) d.vertex)) (refined_written k m a h)
      ∙ ap (λ (c : Topology). remainder (written (rounds_of k t) xs) (mean_of (means c) d.vertex)) (refined_topology k m)

  abbrev LeftNothing : Division → Type 0
  LeftNothing d = ltb 0 (left m a d) ≡ false

  left_nothing : (d : Division) → LeftNothing d ↔ (left m a d ≡ 0)
  left_nothing d = (λ b. omega (arith, ltb-false 0 (left m a d) b), λ e. le-ltb 0 (left m a d) (omega arith))

  fed : (k v : ℕ) → v < (split_times k t).vertex_count → Each LeftNothing (feeding k t v) ↔ NoRemainder (rounds_of k t) xs v
  unfolding feeding rounds_of NoRemainder split_times
  fed zero v l = (λ z. tt, λ z. tt)
  fed (suc k) v l =
      let c = split_times k t in
      let sound = times_sound k t s in
      let mean = mean_of (means c) v in
      let own : Division = record { before = k; vertex = v } in
      let good = each_at (GoodMean c.vertex_count) (means c) no_mean v (means_good c sound) (rw (vertex_means c) l) in
      let known = (each_in (GoodDraw c.vertex_count) mean.draws).0 good.each in
      let Fed : ℕ → Type 0 = λ u. Each LeftNothing (feeding k t u) in
      let all = each_concat_map LeftNothing (feeding k t) (draws_on c v) in
      let drawn = each_drawn c sound v l Fed in
      let draws = each_in (λ (d : Draw). Fed d.vertex) mean.draws in
      let clean = each_in (λ (d : Draw). NoRemainder (rounds_of k t) xs d.vertex) mean.draws in (
        λ e. (
          sym (left_is own) ∙ (left_nothing own).0 e.0,
          clean.1 (λ d i. (fed k d.vertex (known d i).known).0 (draws.0 (drawn.0 (all.0 e.1)) d i)),
        ),
        λ e. (
          (left_nothing own).1 (left_is own ∙ e.0),
          all.1 (drawn.1 (draws.1 (λ d i. (fed k d.vertex (known d i).known).1 (clean.0 e.1 d i)))),
        ),
      )

  pub no_remainder : (k v : ℕ) → v < (split_times k t).vertex_count → (has_remainder k m a v ≡ false) ↔ NoRemainder (rounds_of k t) xs v
  unfolding has_remainder
  no_remainder k v l =
      let some : Division → Bool = λ d. ltb 0 (left m a d) in
      let each = each_in LeftNothing (feeding k t v) in (
        λ b. (fed k v l).0 (each.1 (none_in some (feeding k t v) b)),
        λ n. in_none some (feeding k t v) (each.0 ((fed k v l).1 n)),
      )
