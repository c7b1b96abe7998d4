-- Each part is put where the one before ended (`mesh_put`), and all of them are the stored form (`mesh_written`).
use Rattle.std.proofs.Common.{◌≡◌, ℕ, ◌++◌, List, ap, ◌∙◌, arith, rules}
use Rattle.rules.specs.Counts.{counts_of}
use Rattle.rules.specs.StoredForm.{Header, form_number, header_fields}
use Rattle.bits.specs.Writing.{put_all}
use Rattle.tables.specs.Lent.{mesh_in}
use Rattle.stored.specs.Form.{header_for}
use Rattle.stored.proofs.Form.{tables_under}
use Rattle.stored.proofs.Storing.{Putting, mesh_put, mesh_written, putting}
use Rattle.stored.proofs.writing.put_mesh.Goals as goal
use Rattle.stored.proofs.writing.put_mesh.Goals.{Start}

-- what is known of the mesh, its counts, its width and the buffer
known : (c : Start) → Putting (mesh_in c.args.mesh) c.args.c c.args.width c.args.d.now
known c = putting (mesh_in c.args.mesh) _ _ _ c.requires

pub put_header-at-requires-clause-header_fits : goal.put_header-at-requires-clause-header_fits
put_header-at-requires-clause-header_fits c =
    let k = known (goal.at.put_header-at-requires-clause-header_fits c).Start in
    omega (arith, k.small.width, k.small.range, k.room)

pub put_header-at-requires-clause-counts_fit : goal.put_header-at-requires-clause-counts_fit
put_header-at-requires-clause-counts_fit c =
    omega (arith, (known (goal.at.put_header-at-requires-clause-counts_fit c).Start).small.range)

-- ---- where each part ends; the buffer keeps its length

pub put_table-at-requires-clause-room : goal.put_table-at-requires-clause-room
put_table-at-requires-clause-room c =
    omega (arith, (known (goal.at.put_table-at-requires-clause-room c).Start).room, c.put_header-at.ensures.0, c.put_header-at.auto.d)

pub put_table-at-requires-clause-entries : goal.put_table-at-requires-clause-entries
put_table-at-requires-clause-entries c = (known (goal.at.put_table-at-requires-clause-entries c).Start).vertices

pub put_table-at-requires-2-clause-room : goal.put_table-at-requires-2-clause-room
put_table-at-requires-2-clause-room c =
    let k = known (goal.at.put_table-at-requires-2-clause-room c).Start in
    omega (arith, k.small.some, k.small.width, k.room, c.put_header-at.ensures.0, c.put_header-at.auto.d, c.put_table-at.ensures.0, c.put_table-at.auto.d)

pub put_table-at-requires-2-clause-entries : goal.put_table-at-requires-2-clause-entries
put_table-at-requires-2-clause-entries c = (known (goal.at.put_table-at-requires-2-clause-entries c).Start).hexes

pub put_table-at-requires-3-clause-room : goal.put_table-at-requires-3-clause-room
put_table-at-requires-3-clause-room c =
    let k = known (goal.at.put_table-at-requires-3-clause-room c).Start in
    omega (arith, k.small.some, k.small.width, k.room, c.put_header-at.ensures.0, c.put_table-at.ensures.0, c.put_table-at-2.ensures.0)

pub put_table-at-requires-3-clause-entries : goal.put_table-at-requires-3-clause-entries
put_table-at-requires-3-clause-entries c = (known (goal.at.put_table-at-requires-3-clause-entries c).Start).quads

pub put_table-at-requires-4-clause-room : goal.put_table-at-requires-4-clause-room
put_table-at-requires-4-clause-room c =
    let k = known (goal.at.put_table-at-requires-4-clause-room c).Start in
    omega (arith, k.small.some, k.small.width, k.room, c.put_header-at.ensures.0, c.put_table-at.ensures.0, c.put_table-at-2.ensures.0, c.put_table-at-3.ensures.0)

pub put_table-at-requires-4-clause-entries : goal.put_table-at-requires-4-clause-entries
put_table-at-requires-4-clause-entries c = (known (goal.at.put_table-at-requires-4-clause-entries c).Start).segments

pub put_table-requires-clause-room : goal.put_table-requires-clause-room
put_table-requires-clause-room c =
    let k = known (goal.at.put_table-requires-clause-room c).Start in
    omega (arith, k.small.some, k.small.width, k.room, c.put_header-at.ensures.0, c.put_table-at.ensures.0, c.put_table-at-2.ensures.0, c.put_table-at-3.ensures.0, c.put_table-at-4.ensures.0)

pub put_table-requires-clause-entries : goal.put_table-requires-clause-entries
put_table-requires-clause-entries c = (known (goal.at.put_table-requires-clause-entries c).Start).points

pub returns : goal.returns
returns c =
    let m = mesh_in c.args.mesh in
    let d : List ℕ = c.args.d.now in
    let k = known (goal.at.returns c).Start in
    let h : Header = record { form = form_number; width = c.args.width; counts = c.args.c } in
    let header : h ≡ header_for (counts_of m) = λ i. record { form = 1; width = k.width i; counts = c.requires.1 i } in
    mesh_put m h d _ _ _ _ _ _ _ _ _ _ _ c.put_header-at.ensures c.put_table-at.ensures c.put_table-at-2.ensures c.put_table-at-3.ensures c.put_table-at-4.ensures c.put_table.ensures.1
    ∙ ap (λ x. put_all d 0 (header_fields x ++ tables_under x m)) header
    ∙ mesh_written m d (λ i. (search rules)) k.passes
