-- Each table finds the memory as long as it was.
use Rattle.std.proofs.Common.{length, ◌∙◌}
use Rattle.tables.specs.Lent.{mesh_in}
use Rattle.checks.proofs.Marking.{isolated_by_marks}
use Rattle.checks.proofs.marks.has_isolated_in_window.Goals as goal

pub returns : goal.returns
returns c =
    c.has_zero.ensures ∙ isolated_by_marks c.args.first (length c.args.w.now) (mesh_in c.args.mesh) (c.fill.ensures.after (λ y e. e)) c.mark.ensures c.mark-2.ensures c.mark-3.ensures c.mark-4.ensures
