-- Window after window: each fits the numbers.
use Rattle.std.proofs.Common.{◌≡◌, length, take, sym, ◌∙◌, arith}
use lib.Seq.{length-take-le}
use Rattle.checks.proofs.Windows.{window_hit, window_miss, window_end}
use Rattle.checks.proofs.marks.has_isolated_vertex.Goals as goal

pub returns-then-has_isolated_in_window : goal.returns-then-has_isolated_in_window
returns-then-has_isolated_in_window c =
    let size : length (take c.min-size.result c.loop-first.w) ≡ c.min-size.result = length-take-le c.min-size.result c.loop-first.w (omega (arith, c.min-size.ensures)) in
    window_hit _ _ c.loop-first.invariant c.min-size.result (omega (arith, c.min-size.ensures))
    (sym (rw size at c.has_isolated_in_window.ensures) ∙ c.if-has_isolated_in_window.true)

pub loop-first-preserved : goal.loop-first-preserved
loop-first-preserved c =
    let size : length (take c.min-size.result c.loop-first.w) ≡ c.min-size.result = length-take-le c.min-size.result c.loop-first.w (omega (arith, c.min-size.ensures)) in
    let whole : c.min-size.result ≡ length c.args.w.now = omega (arith, c.min-size.ensures) in
    rw whole at (window_miss _ _ c.loop-first.invariant c.min-size.result (omega (arith, c.min-size.ensures)) (sym (rw size at c.has_isolated_in_window.ensures) ∙ c.if-has_isolated_in_window.false))

pub returns : goal.returns
returns c = window_end _ _ c.loop-first.invariant c.loop-first-test.false

pub returns-else-has_isolated_in_window : goal.returns-else-has_isolated_in_window
returns-else-has_isolated_in_window c =
    let size : length (take c.min-size.result c.loop-first.w) ≡ c.min-size.result = length-take-le c.min-size.result c.loop-first.w (omega (arith, c.min-size.ensures)) in
    window_end _ _
    (window_miss _ _ c.loop-first.invariant c.min-size.result (omega (arith, c.min-size.ensures)) (sym (rw size at c.has_isolated_in_window.ensures) ∙ c.if-has_isolated_in_window.false))
    (omega (arith, c.min-size.ensures))
