-- The child's corners so far have counted, so that there is room for one more.
use Rattle.std.proofs.Common.{ℕ, get_or, refl, arith}
use Rattle.averaging.specs.Tally.{corner_step}
use Rattle.averaging.specs.Pass.{child_step}
use Rattle.averaging.proofs.Steps.{tallied_start, tallied_again, tallied_end, spare_after}
use Rattle.averaging.proofs.tallies.Tallies.count_child.Goals as goal

pub loop-corner-init : goal.loop-corner-init
loop-corner-init g c = tallied_start 0 _ c.args.self.now

pub count_at-requires-clause-room : goal.count_at-requires-clause-room
count_at-requires-clause-room g c =
    let l = c.loop-corner in
    (omega (arith, c.requires.room.0 l.corner-index (omega (arith, c.told-child))), spare_after l.corner-index (omega (arith, c.told-child)) l.invariant c.requires.room.1)

pub loop-corner-preserved : goal.loop-corner-preserved
loop-corner-preserved g c = tallied_again (λ (x j : ℕ). corner_step c.args.d (get_or c.args.sums x 0) (get_or c.args.child.now j 0)) c.loop-corner.corner-index refl c.loop-corner.invariant c.count_at.ensures

pub returns : goal.returns
unfolding child_step
returns g c = tallied_end (λ (j : ℕ). j) (λ (x j : ℕ). corner_step c.args.d (get_or c.args.sums x 0) (get_or c.args.child.now j 0)) (omega (arith, c.told-child)) c.loop-corner.invariant
