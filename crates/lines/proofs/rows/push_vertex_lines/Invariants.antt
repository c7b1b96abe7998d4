-- The lines of the vertices met are appended.
use Rattle.std.proofs.Common.{take}
use Rattle.rules.specs.Lists.{concat_map, up_from}
use Rattle.rules.specs.Mesh.{topology}
use Rattle.rules.specs.Listing.{vertex_line}
use Rattle.tables.specs.Lent.{mesh_in}
use Rattle.lines.specs.Appended.{Appended}
use Rattle.lines.proofs.rows.push_vertex_lines.Given as goal

abbrev pub invariant-loop-v : goal.invariant-loop-v
invariant-loop-v l = let m = mesh_in l.fitting.tables in Appended l.initial.out l.out (concat_map (vertex_line m (topology m)) (take l.v (up_from 0 l.n)))
