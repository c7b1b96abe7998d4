use Rattle.std.proofs.Common.{arith}
use Rattle.tables.specs.Lent.{mesh_in}
use Rattle.checks.proofs.WalkLaws.{length_named}
use Rattle.checks.proofs.parts.Part.count_all.Goals as goal

pub returns : goal.returns
returns c =
    let m = mesh_in c.args.mesh in
    omega (arith, length_named c.args.self m.vertices m.hexes m.quads m.segments m.points c.of_hexes.ensures c.of_quads.ensures c.of_segments.ensures)
