use Rattle.std.proofs.Common.{List, ap, ◌∙◌, length}
use Rattle.rules.specs.Lists.{Key, distinct}
use Rattle.tables.specs.Lent.{mesh_in}
use Rattle.checks.proofs.Duplicates.{edge_keys_lem}
use Rattle.checks.proofs.edge_count_with.Goals as goal

pub returns-in-Some : goal.returns-in-Some
returns-in-Some c = c.in-Some.ensures ∙ ap (λ (ks : List Key). length (distinct ks)) (edge_keys_lem (mesh_in c.args.mesh.tables))
