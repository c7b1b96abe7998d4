use Rattle.std.proofs.Common.{sym}
use borrow.Author.Tests.{eqb-true}
use Rattle.tables.specs.Lent.{mesh_in}
use Rattle.rules.specs.Mesh.{segment}
use Rattle.checks.proofs.ByKind.{no_duplicates}
use Rattle.checks.proofs.Duplicates.{segments_alone}
use Rattle.checks.proofs.edge_count.Goals as goal

-- Segments by themselves are edges, each its own.
pub returns-then-is_empty-2 : goal.returns-then-is_empty-2
returns-then-is_empty-2 c =
    let m = c.args.mesh.tables in
    sym (segments_alone (mesh_in m) (eqb-true _ _ (sym c.if-is_empty.ensures)) (eqb-true _ _ (sym c.if-is_empty-2.ensures))
    (no_duplicates (mesh_in m) c.requires segment))
