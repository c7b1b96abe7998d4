-- Each table has room and lies in the file (`storable`), and the five are the stored mesh (`stored_tables`).
use Rattle.std.proofs.Common.{◌≡◌, false, subst, ◌∙◌, arith}
use Rattle.rules.specs.declared.Counts.{Counts}
use Rattle.rules.specs.Mesh.{mesh}
use Rattle.rules.specs.Counts.{counts_of, out_of_range}
use Rattle.tables.specs.Lent.{mesh_at}
use Rattle.stored.proofs.Acceptance.{reading_accepted}
use Rattle.stored.proofs.FileChecks.{headed}
use Rattle.stored.proofs.Storing.{Storable, storable, stored_tables}
use Rattle.stored.proofs.reading.store_tables.Goals as goal
use Rattle.stored.proofs.reading.store_tables.Goals.{After-layout_of-at}

pub layout_of-at-requires : goal.layout_of-at-requires
layout_of-at-requires c =
    let f = c.args.file in
    subst (λ (d : Counts). out_of_range d ≡ false) (headed f).1 (reading_accepted f.bytes.now (counts_of (mesh_at c.args.lent.now)) c.requires).0.head.range

-- what is known of the file, its layout and the lent tables
known : (c : After-layout_of-at) → Storable c.args.file.bytes.now c.args.file.counts c.layout_of-at.result (mesh_at c.args.lent.now)
known c = storable c.args.file.bytes.now c.args.file.counts c.layout_of-at.result (mesh_at c.args.lent.now) (headed c.args.file).1 c.requires c.layout_of-at.ensures

pub get_table-requires-clause-room : goal.get_table-requires-clause-room
get_table-requires-clause-room c = omega (arith, known (goal.at.get_table-requires-clause-room c).After-layout_of-at)

pub get_table-requires-2-clause-room : goal.get_table-requires-2-clause-room
get_table-requires-2-clause-room c = omega (arith, known (goal.at.get_table-requires-2-clause-room c).After-layout_of-at)

pub get_table-requires-3-clause-room : goal.get_table-requires-3-clause-room
get_table-requires-3-clause-room c = omega (arith, known (goal.at.get_table-requires-3-clause-room c).After-layout_of-at)

pub get_table-requires-4-clause-room : goal.get_table-requires-4-clause-room
get_table-requires-4-clause-room c = omega (arith, known (goal.at.get_table-requires-4-clause-room c).After-layout_of-at)

pub get_table-requires-5-clause-room : goal.get_table-requires-5-clause-room
get_table-requires-5-clause-room c = omega (arith, known (goal.at.get_table-requires-5-clause-room c).After-layout_of-at)

pub returns-clause-after : goal.returns-clause-after
returns-clause-after c =
    let k = known (goal.at.returns-clause-after c).After-layout_of-at in
    (λ i. mesh (c.get_table.ensures i) (c.get_table-2.ensures i) (c.get_table-3.ensures i) (c.get_table-4.ensures i) (c.get_table-5.ensures i))
    ∙ stored_tables c.args.file.bytes.now c.args.file.counts c.layout_of-at.result (mesh_at c.args.lent.now) k.body
