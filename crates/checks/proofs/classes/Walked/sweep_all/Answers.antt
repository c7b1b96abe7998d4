use Rattle.std.proofs.Common.{arith}
use Rattle.checks.proofs.Sweeps.{total_start, total_turn, total_few, total_end}
use Rattle.checks.proofs.classes.Walked.sweep_all.Goals as goal

pub loop-number-init : goal.loop-number-init
loop-number-init g c = total_start _ _ _

pub overflow_add-n : goal.overflow_add-n
overflow_add-n g c =
    let t = total_turn c.loop-number.invariant c.loop-number-test.true c.in_ok-n.ensures in
    omega (arith, total_few t, c.args.self.count_is, c.args.self.few)

pub loop-number-preserved : goal.loop-number-preserved
loop-number-preserved g c = total_turn c.loop-number.invariant c.loop-number-test.true c.in_ok-n.ensures

pub returns : goal.returns
returns g c = total_end c.loop-number.invariant c.requires.classes_in_range.0 c.loop-number-test.false
