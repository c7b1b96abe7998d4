-- The vertices before the window are in cells.
use Rattle.rules.specs.Lists.{any, up_from}
use Rattle.tables.specs.Lent.{mesh_in}
use Rattle.checks.specs.Held.{isolated_in}
use Rattle.checks.proofs.Windows.{Windowing}
use Rattle.checks.proofs.marks.has_isolated_vertex.Given as goal

abbrev pub invariant-loop-first : goal.invariant-loop-first
invariant-loop-first l = Windowing (isolated_in (mesh_in l.mesh)) l.n (any (isolated_in (mesh_in l.mesh)) (up_from 0 l.n)) l.first
