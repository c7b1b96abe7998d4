use Rattle.rules.specs.Mesh.{hex, quad, segment, point}
use Rattle.tables.specs.Lent.{mesh_in}
use Rattle.checks.proofs.ByKind.{no_repeats}
use Rattle.checks.proofs.has_duplicate_cell.Goals as goal

pub has_duplicate-requires-clause-no_repeated_corner : goal.has_duplicate-requires-clause-no_repeated_corner
has_duplicate-requires-clause-no_repeated_corner c = no_repeats (mesh_in c.args.mesh.tables) c.args.mesh.plain hex

pub has_duplicate-requires-else-has_duplicate-clause-no_repeated_corner : goal.has_duplicate-requires-else-has_duplicate-clause-no_repeated_corner
has_duplicate-requires-else-has_duplicate-clause-no_repeated_corner c = no_repeats (mesh_in c.args.mesh.tables) c.args.mesh.plain quad

pub has_duplicate-requires-else-has_duplicate-2-clause-no_repeated_corner : goal.has_duplicate-requires-else-has_duplicate-2-clause-no_repeated_corner
has_duplicate-requires-else-has_duplicate-2-clause-no_repeated_corner c = no_repeats (mesh_in c.args.mesh.tables) c.args.mesh.plain segment

pub has_duplicate-requires-else-has_duplicate-3-clause-no_repeated_corner : goal.has_duplicate-requires-else-has_duplicate-3-clause-no_repeated_corner
has_duplicate-requires-else-has_duplicate-3-clause-no_repeated_corner c = no_repeats (mesh_in c.args.mesh.tables) c.args.mesh.plain point
