-- The width is read of a file that is long enough, and compared with that of the counts (`width_wrong`, `width_right`).
use Rattle.std.proofs.Common.{◌≤◌, sym, subst, ◌∙◌, arith}
use Rattle.rules.specs.declared.Counts.{Counts}
use Rattle.rules.specs.StoredForm.{index_width}
use Rattle.soundness.proofs.Rounds.{in_range_lem}
use Rattle.stored.proofs.Acceptance.{counts_accepted}
use Rattle.stored.proofs.FileChecks.{headed}
use Rattle.stored.proofs.HeaderChecks.{width_wrong, width_right}
use Rattle.stored.proofs.header.HeadedFile.check_width.Goals as goal

pub get_field-width-requires : goal.get_field-width-requires
get_field-width-requires c = omega (arith, (counts_accepted c.args.self.bytes.now 0 (headed c.args.self).0).0.long)

pub overflow_sub-self : goal.overflow_sub-self
overflow_sub-self c =
    let h = headed c.args.self in
    subst (λ (n : Counts). 1 ≤ n.vertices) h.1 (in_range_lem _ (counts_accepted c.args.self.bytes.now 0 h.0).0.range).some

pub returns-then-width-index_width : goal.returns-then-width-index_width
unfolding index_width
returns-then-width-index_width c =
    width_wrong c.args.self.bytes.now c.args.self.counts (headed c.args.self).1 (λ e. c.if-width-index_width.true (c.get_field-width.ensures ∙ e ∙ sym c.index_width.ensures))

pub returns : goal.returns
unfolding index_width
returns c =
    width_right c.args.self.bytes.now c.args.self.counts (headed c.args.self).1 (sym c.get_field-width.ensures ∙ c.if-width-index_width.false ∙ c.index_width.ensures)
