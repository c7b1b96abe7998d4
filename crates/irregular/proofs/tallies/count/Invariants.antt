-- The windows passed are counted.
use Rattle.tables.specs.Lent.{mesh_in}
use Rattle.irregular.specs.Times.{irregular_in}
use Rattle.irregular.proofs.Keeping.{Windowing}
use Rattle.irregular.proofs.tallies.count.Given as goal

abbrev pub invariant-loop-first : goal.invariant-loop-first
invariant-loop-first l = Windowing (irregular_in (mesh_in l.mesh.tables)) l.n l.first l.count
