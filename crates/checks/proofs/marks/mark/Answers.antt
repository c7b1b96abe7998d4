use Rattle.std.proofs.Common.{arith}
use Rattle.checks.proofs.Marking.{mark_start, mark_hit, mark_miss}
use Rattle.checks.proofs.marks.mark.Goals as goal
use Rattle.checks.proofs.marks.mark.Goals.{in-Some, in_default}

pub loop-corner-init : goal.loop-corner-init
loop-corner-init c = mark_start c.args.first c.args.x c.args.w.now c.args.table.now

pub loop-corner-preserved : goal.loop-corner-preserved
loop-corner-preserved c =
    let m = c.loop-corner.invariant in
    let h = c.loop-corner-test.true in
    elim c.match-place_in_window.branch [
      | in-Some w ↦ rw w.w-is (mark_hit _ _ m h w.in-Some.place (omega (arith, w.in-Some.ensures)) (omega (arith, w.in-Some.ensures, m.kept)))
      | in_default w ↦ rw w.w-is (mark_miss _ _ m h (λ v k e. w.in_default.ensures (omega arith, omega (arith, m.kept))))
    ]
