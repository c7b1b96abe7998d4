-- A corner is counted, or it is passed: its vertex is outside the window or has another rank.
use Rattle.std.proofs.Common.{◌≡◌, ◌<◌, refl, ap, ◌∙◌, length, get_or, arith}
use Rattle.irregular.proofs.Counts.{tally_start, tally_fits, tally_hit, tally_miss}
use Rattle.irregular.proofs.tallies.Window.tally.Goals as goal
use Rattle.irregular.proofs.tallies.Window.tally.Goals.{in-Some+then-rank-ranks, in-Some+else-rank-ranks, in_default}

pub loop-corner-init : goal.loop-corner-init
loop-corner-init c = tally_start _ _ _ _ c.args.table.now

pub overflow_add-valences : goal.overflow_add-valences
overflow_add-valences c =
    let place = c.in-Some.place in
    let within : place < length c.args.self.now.ranks.now = omega (arith, c.in-Some.ensures) in
    omega (arith, tally_fits _ _ c.loop-corner.invariant c.loop-corner-test.true place (omega (arith, c.in-Some.ensures)) within (c.requires.counts_fit place within))

pub loop-corner-preserved : goal.loop-corner-preserved
loop-corner-preserved c =
    let t = c.loop-corner.invariant in
    let h = c.loop-corner-test.true in
    elim c.match-place_in_window.branch [
      | in-Some+then-rank-ranks w ↦
          let e = w.in-Some.ensures in
          rw w.valences-is (tally_hit _ _ t h w.in-Some.place (omega (arith, e)) (omega (arith, e)) c.args.self.now.same w.if-rank-ranks.true)
      | in-Some+else-rank-ranks w ↦
          rw w.valences-is
          (tally_miss _ _ t h (λ v k e r.
          let same : v ≡ w.in-Some.place = omega (arith, w.in-Some.ensures) in
          w.if-rank-ranks.false (r ∙ ap (λ u. get_or c.args.self.now.ranks.now u 0) same)))
      | in_default w ↦ rw w.valences-is (tally_miss _ _ t h (λ v k e r. w.in_default.ensures (omega arith, omega arith)))
    ]

pub returns-clause-kept : goal.returns-clause-kept
returns-clause-kept c = (refl, refl)
