-- The corners so far are marked.
use Rattle.std.proofs.Common.{take}
use Rattle.checks.specs.Marked.{Marked}
use Rattle.checks.proofs.marks.mark.Given as goal

abbrev pub invariant-loop-corner : goal.invariant-loop-corner
invariant-loop-corner l = Marked l.first l.x l.initial.w l.w (take l.corner-index l.table)
