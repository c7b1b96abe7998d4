-- One corner more: it is not below n, and so one of the row is not, or none of those passed.
use Rattle.std.proofs.Common.{ℕ, leb, sym, ap, ◌∙◌, arith}
use native.Mathlib.Nat.{mul-zero}
use borrow.Author.Tests.{le-leb, lt-leb}
use Rattle.rules.specs.Bits.{field_at}
use Rattle.stored.proofs.Corners.{row_none, row_more, row_reaches}
use Rattle.stored.proofs.file.reaches.Goals as goal

pub loop-i-init : goal.loop-i-init
loop-i-init c =
    let a = c.args in
    record { at = omega (arith, mul-zero a.at.width); below = row_none (leb a.n) a.s.now a.at.hexes a.at.width }

pub returns-then-n-corner : goal.returns-then-n-corner
returns-then-n-corner c =
    let a = c.args in
    let field = c.get_field-corner.ensures ∙ ap (λ (p : ℕ). field_at a.s.now p a.at.width) c.loop-i.invariant.at in
    sym
    (row_reaches (leb a.n) a.s.now a.at.hexes a.at.width c.loop-i.i a.at.corners (omega arith)
    (ap (leb a.n) (sym field) ∙ le-leb a.n c.get_field-corner.result c.if-n-corner.true))

pub loop-i-preserved : goal.loop-i-preserved
loop-i-preserved c =
    let a = c.args in
    let field = c.get_field-corner.ensures ∙ ap (λ (p : ℕ). field_at a.s.now p a.at.width) c.loop-i.invariant.at in
    record {
      at = omega (arith, c.loop-i.invariant.at);
      below =
          row_more (leb a.n) a.s.now a.at.hexes a.at.width c.loop-i.i c.loop-i.invariant.below
          (ap (leb a.n) (sym field) ∙ lt-leb a.n c.get_field-corner.result c.if-n-corner.false);
    }
