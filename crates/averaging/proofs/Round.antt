-- The tallies that the four passes leave are those of the rules' counted cells. Divided, they are the coordinates after the round. Assumes nothing.
use mathlib.Core.Path.{◌≡◌, refl, sym, ap, subst, ◌∙◌}
use mathlib.Core.Bool.{Bool, true, false}
use mathlib.Core.List.{List, ◌++◌}
use Prim.Native.Nat.{ℕ, ◌+◌, ◌*◌, ◌/◌, ◌%◌, ◌^◌, ◌≤◌, ◌<◌, ◌-◌}
use native.Mathlib.Omega.{arith}
use native.Mathlib.Nat.{le_trans, mod-lt, div-add-mod}
use lib.ListN.{length, get_or, drop, length-append, length-drop, get_or-append}
use lib.Seq.{ext_get_or, get_or-append-add, get_or-drop}
use borrow.Author.Tests.{ltb-true, ltb-false}
use lib.Dec.{ltb}
use lib.IntN.{ℤ, pos, ◌+ℤ◌}
use Rattle.rules.specs.Lists.{overwritten}
use Rattle.rules.specs.Mesh.{Mesh, hex, quad, segment, point, topology}
use Rattle.rules.specs.Split.{parts, split_by, split}
use Rattle.rules.specs.Means.{Mean, no_mean, coordinate, rounded}
use Rattle.rules.specs.Averaging.{rank, valence, counted, cell_draws, mean_at, means, axis, averaged}
use Rattle.lists.proofs.Each.{each_at}
use Rattle.lists.proofs.Membership.{get_or_map}
use Rattle.integers.specs.Range.{InRange}
use Rattle.rounding.specs.Good.{GoodMean}
use Rattle.rounding.proofs.Draws.{nat_total, nat_total_le, nat_total_concat_map, rounded_biased}
use Rattle.soundness.proofs.Rounds.{length_averaged, length_means}
use Rattle.soundness.proofs.SplitSound.{split_sound}
use Rattle.accuracy.proofs.Axes.{axis_at, axis_averaged}
use Rattle.accuracy.proofs.Counted.{ranked, rank_below, valence_below, counted_some}
use Rattle.accuracy.proofs.Means.{mean_is, means_good}
use Rattle.accuracy.proofs.Range.{all_in_range}
use Rattle.averaging.specs.declared.tallies.Tallies.{Tallies}
use Rattle.averaging.specs.Tally.{Tally, tally_at, Tallied}
use Rattle.averaging.specs.Pass.{biased, divisor_of, Complete, MeanOf}
use Rattle.averaging.specs.Ready.{Ready}
use Rattle.averaging.proofs.Biased.{biased_is, biased_below}
use Rattle.averaging.proofs.Passed.{tally_of, passed_all}
use Rattle.averaging.proofs.Children.{value}
use Rattle.averaging.proofs.Tables.{Cleared, kind_step}

module _ {m fine : Mesh} {count words longs out : ℕ} (r : Ready m fine count words longs out) where
  -- ---- the four passes

  pub counted_tally : {t₀ t₁ t₂ t₃ t₄ : Tallies} → Cleared count t₀
      → {k₁ k₂ k₃ k₄ : ℕ} → Tallied k₁ (kind_step r point) t₀ t₁ → Tallied k₂ (kind_step r segment) t₁ t₂ → Tallied k₃ (kind_step r quad) t₂ t₃ → Tallied k₄ (kind_step r hex) t₃ t₄
      → (a f : ℕ) → a < 3 → f < count → tally_at t₄ a f ≡ tally_of (value m a) (counted (split (topology m)) f)
  counted_tally start p s q h a f k i =
      h.each a f k
      ∙ ap (kind_step r hex a f) (q.each a f k
      ∙ ap (kind_step r quad a f) (s.each a f k
      ∙ ap (kind_step r segment a f) (p.each a f k ∙ ap (kind_step r point a f) (start a f k i))))
      ∙ passed_all (value m a) f (split (topology m))

  -- ---- one fine vertex, on one axis

  module _ (a f : ℕ) (h : a < 3) (l : f < count) where
    abbrev at : ℕ → ℕ
    at u = biased (get_or m.vertices (3 * u + a) (pos 0))

    abbrev mean : Mean
    mean = mean_at (parts (topology m)) (split (topology m)) f

    abbrev left : Tally
    left = tally_of (value m a) (counted (split (topology m)) f)

    below : f < (split (topology m)).vertex_count
    unfolding split split_by
    below = omega (arith, r.counted)

    good : GoodMean (topology m).vertex_count mean
    good =
        subst (GoodMean (topology m).vertex_count) (mean_is (topology m) f below)
        (each_at (GoodMean (topology m).vertex_count) (means (topology m)) no_mean f (means_good (topology m) r.sound) (omega (arith, length_means (topology m), r.counted)))

    in_range_lem : (u : ℕ) → u < (topology m).vertex_count → InRange (get_or m.vertices (3 * u + a) (pos 0))
    unfolding topology
    in_range_lem u k = (all_in_range m).0 r.near (3 * u + a) (omega arith)

    at_is : (u : ℕ) → u < (topology m).vertex_count → pos (at u) ≡ get_or m.vertices (3 * u + a) (pos 0) +ℤ pos (2 ^ 29)
    at_is u k = biased_is (get_or m.vertices (3 * u + a) (pos 0)) (in_range_lem u k)

    at_below : (u : ℕ) → u < (topology m).vertex_count → at u < 2 ^ 30
    at_below u k = biased_below (get_or m.vertices (3 * u + a) (pos 0)) (in_range_lem u k)

    sum_is : left.sum ≡ nat_total mean.draws at
    unfolding mean_at
    sum_is = sym (nat_total_concat_map at (cell_draws (parts (topology m))) (counted (split (topology m)) f).cells)

    divisor_is : divisor_of left ≡ mean.divisor
    unfolding mean_at
    divisor_is = refl

    pub complete : Complete left
    unfolding rank valence
    complete =
        let few = le_trans (valence_below (split (topology m)) f) (r.few (ranked (split (topology m)) f).kind) in
        let small = nat_total_le (topology m).vertex_count (2 ^ 30 - 1) at mean.draws good.each (λ u k. omega (arith, at_below u k)) in
        record {
          low = omega (arith, rank_below (split (topology m)) f);
          some = counted_some (split (topology m)) (split_sound (topology m) r.sound) f below;
          few = omega arith;
          range = omega (arith, sum_is, divisor_is, small, good.whole, good.some);
        }

    -- what is written is the coordinate after the round
    pub written : (z : ℤ) → MeanOf left z → z ≡ get_or (averaged (means (topology m)) m.vertices) (3 * f + a) (pos 0)
    unfolding topology
    written z e =
        let ms = means (topology m) in
        let xs = m.vertices in
        let fits : f < length ms = omega (arith, length_means (topology m), r.counted) in
        rounded_biased (topology m).vertex_count (2 ^ 29) (axis a xs) at mean z good
        (λ u k. at_is u k ∙ ap (λ (x : ℤ). x +ℤ pos (2 ^ 29)) (sym (axis_at a xs u h k)))
        (rw (sum_is, divisor_is) at e)
        ∙ ap (rounded (axis a xs)) (sym (mean_is (topology m) f below))
        ∙ sym (get_or_map (rounded (axis a xs)) ms f no_mean (pos 0) fits)
        ∙ ap (λ (ys : List ℤ). coordinate ys f) (sym (axis_averaged a ms xs h))
        ∙ axis_at a (averaged ms xs) f h (omega (arith, length_averaged ms xs))

  -- ---- all of them

  pub overwrites : (old new : List ℤ) → out ≤ length old → length new ≡ length old
      → ((a f : ℕ) → a < 3 → f < count → get_or new (3 * f + a) (pos 0) ≡ get_or (averaged (means (topology m)) m.vertices) (3 * f + a) (pos 0))
      → ((a f : ℕ) → a < 3 → count ≤ f → get_or new (3 * f + a) (pos 0) ≡ get_or old (3 * f + a) (pos 0))
      → new ≡ overwritten old (averaged (means (topology m)) m.vertices)
  unfolding overwritten
  overwrites old new fits same used rest =
      let ys = averaged (means (topology m)) m.vertices in
      let long : length ys ≡ 3 * count = length_averaged (means (topology m)) m.vertices ∙ ap (λ (n : ℕ). 3 * n) (length_means (topology m) ∙ sym r.counted) in
      ext_get_or (pos 0) new (ys ++ drop (length ys) old) (omega (arith, length-append ys (drop (length ys) old), length-drop (length ys) old, r.out_fits)) (λ q h.
      subst (λ (q : ℕ). get_or new q (pos 0) ≡ get_or (ys ++ drop (length ys) old) q (pos 0)) (div-add-mod q 3)
      (at (q / 3) (q % 3) (mod-lt q (omega arith)) long (ltb (q / 3) count) refl))
    where
      at : (f a : ℕ) → a < 3 → length (averaged (means (topology m)) m.vertices) ≡ 3 * count → (b : Bool) → ltb f count ≡ b
          → get_or new (3 * f + a) (pos 0) ≡ get_or (averaged (means (topology m)) m.vertices ++ drop (length (averaged (means (topology m)) m.vertices)) old) (3 * f + a) (pos 0)
      at f a h long true e =
          let ys = averaged (means (topology m)) m.vertices in
          let l = ltb-true f count e in
          used a f h l ∙ sym (get_or-append ys (drop (length ys) old) (pos 0) (3 * f + a) (omega arith))
      at f a h long false e =
          let ys = averaged (means (topology m)) m.vertices in
          let l = ltb-false f count e in
          let q = 3 * f + a - length ys in
          let back : length ys + q ≡ 3 * f + a = omega arith in
          rest a f h l ∙ sym (ap (λ (p : ℕ). get_or (ys ++ drop (length ys) old) p (pos 0)) (sym back) ∙ get_or-append-add ys (drop (length ys) old) q (pos 0) ∙ get_or-drop (length ys) old q (pos 0) ∙ ap (λ (p : ℕ). get_or old p (pos 0)) back)
