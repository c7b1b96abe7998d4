use Rattle.std.proofs.Common.{refl}
use Rattle.rules.specs.Mesh.{topology}
use Rattle.rules.specs.Split.{distinct_parts}
use Rattle.tables.specs.Lent.{mesh_in}
use Rattle.soundness.proofs.Checks.{mesh_sized}
use Rattle.checks.proofs.Mismatch.{apart_mismatched, agreeing_matched}
use Rattle.checks.proofs.by_classes.check_faces.Goals as goal

pub returns-in-Ok : goal.returns-in-Ok
unfolding distinct_parts
returns-in-Ok c =
    let m = mesh_in c.args.mesh.tables in
    (agreeing_matched (topology m) (mesh_sized m) c.args.mesh.plain c.in-Ok.ensures, c.in-Ok.ensures.count_is)

pub returns-in-Err-Differs : goal.returns-in-Err-Differs
returns-in-Err-Differs c =
    let m = mesh_in c.args.mesh.tables in
    (apart_mismatched (topology m) (mesh_sized m) c.args.mesh.plain (rw c.in-Err-Differs.field-0-is at c.in-Err-Differs.ensures), refl)
