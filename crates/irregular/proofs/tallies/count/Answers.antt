-- Window after window; the last ends with the vertices.
use Rattle.std.proofs.Common.{◌≡◌, ◌/◌, length, length-take, arith}
use Rattle.irregular.proofs.Keeping.{window_start, window_few, window_turn, window_end}
use Rattle.irregular.proofs.tallies.count.Goals as goal

pub loop-first-init : goal.loop-first-init
loop-first-init c = window_start _ _

pub overflow_add-count : goal.overflow_add-count
overflow_add-count c =
    let size = c.min-size.result in
    let next = window_turn _ _ c.loop-first.invariant size _ _ (omega (arith, c.min-size.ensures)) (omega (arith, length-take size c.loop-first.ranks)) c.count_irregular.ensures in
    omega (arith, window_few _ _ next, next.below)

pub loop-first-preserved : goal.loop-first-preserved
loop-first-preserved c =
    let size = c.min-size.result in
    let whole : size ≡ length c.args.w.now / 2 = omega (arith, c.min-size.ensures) in
    rw whole at (window_turn _ _ c.loop-first.invariant size _ _ (omega (arith, c.min-size.ensures)) (omega (arith, length-take size c.loop-first.ranks)) c.count_irregular.ensures)

pub returns : goal.returns
returns c = window_end _ _ c.loop-first.invariant c.loop-first-test.false

pub returns-2 : goal.returns-2
returns-2 c =
    let size = c.min-size.result in
    window_end _ _
    (window_turn _ _ c.loop-first.invariant size _ _ (omega (arith, c.min-size.ensures)) (omega (arith, length-take size c.loop-first.ranks)) c.count_irregular.ensures)
    (omega (arith, c.min-size.ensures))
