-- The checks of the mesh, the room of the buffer, and then the mesh (`Answers`).
use Rattle.std.proofs.Common.{◌≡◌, ℕ, ◌<◌, ◌≤◌, length, refl, sym, ap, subst, ◌∙◌}
use Rattle.std.specs.Prelude.{Ok, Err}
use Rattle.std.proofs.lemmas.Result.{err_from_is_err_and}
use Rattle.rules.specs.declared.Counts.{Counts}
use Rattle.rules.specs.declared.Refusal.TheVariants.{ShortBuffer}
use Rattle.rules.specs.Lists.{overwritten}
use Rattle.rules.specs.Mesh.{Mesh}
use Rattle.rules.specs.Counts.{counts_of, out_of_range}
use Rattle.rules.specs.Refusals.{table_checks}
use Rattle.rules.specs.Bits.{bytes_for}
use Rattle.rules.specs.StoredForm.{layout, stored_form}
use Rattle.tables.specs.Lent.{mesh_in}
use Rattle.checks.proofs.Passed.{TablesPass, tables_pass}
use Rattle.stored.specs.declared.layout.Layout.{Layout}
use Rattle.stored.specs.Form.{header_for, Laid}
use Rattle.stored.proofs.Acceptance.{pass_range}
use Rattle.stored.proofs.Inverse.{stored_length}
use Rattle.stored.proofs.Answers.{Written, mesh_refused, buffer_refused, accepted_writing, promised_mesh}
use Rattle.stored.proofs.Bounds.{places_fit}
use Rattle.stored.proofs.write.Goals as goal
use Rattle.stored.proofs.write.Goals.{After-counts_in-counts, Then-buffer-at, Else-buffer-at}

pub returns-in_err-check_tables-clause-answer : goal.returns-in_err-check_tables-clause-answer
returns-in_err-check_tables-clause-answer c =
    let p = err_from_is_err_and c.from_residual.result c.from_residual.ensures.1 in
    rw (p.1, p.2) (mesh_refused (mesh_in c.args.mesh) c.args.buffer.now _ c.in_err-check_tables.ensures).answer

pub returns-in_err-check_tables-clause-output : goal.returns-in_err-check_tables-clause-output
returns-in_err-check_tables-clause-output c =
    (mesh_refused (mesh_in c.args.mesh) c.args.buffer.now _ c.in_err-check_tables.ensures).output

-- the checks 1 to 4 passed
passed : (m : Mesh) → 0 ≡ table_checks m 0 → TablesPass m
passed m e = tables_pass m (sym e)

pub counts_in-counts-requires : goal.counts_in-counts-requires
counts_in-counts-requires c =
    let m = mesh_in c.args.mesh in
    places_fit c.places.result (counts_of m) c.places.ensures (pass_range m (passed m c.in_ok-check_tables.ensures))

-- the counts are the mesh's
counts : (c : After-counts_in-counts) → c.counts_in-counts.result ≡ counts_of (mesh_in c.args.mesh)
counts c = c.counts_in-counts.ensures ∙ c.places.ensures

pub layout_of-at-requires : goal.layout_of-at-requires
layout_of-at-requires c =
    ap out_of_range (counts c) ∙ pass_range (mesh_in c.args.mesh) (passed (mesh_in c.args.mesh) c.in_ok-check_tables.ensures)

-- the bytes that the layout calls for
bytes : (m : Mesh) (c : Counts) (at : Layout) → 0 ≡ table_checks m 0 → c ≡ counts_of m → Laid c at → at.bytes ≡ length (stored_form m)
bytes m c at e h laid =
    laid.bytes ∙ ap (λ (x : Counts). bytes_for (layout (header_for x)).end) h ∙ sym (stored_length m (passed m e))

refused : (c : Then-buffer-at) → Written (mesh_in c.args.mesh) c.args.buffer.now (Err ShortBuffer) c.args.buffer.now
refused c =
    let m = mesh_in c.args.mesh in
    let d = c.args.buffer.now in
    let long = bytes m _ _ c.in_ok-check_tables.ensures (c.counts_in-counts.ensures ∙ c.places.ensures) c.layout_of-at.ensures in
    buffer_refused m d (passed m c.in_ok-check_tables.ensures) (subst (λ (n : ℕ). length d < n) long c.if-buffer-at.true)

long : (c : Else-buffer-at) → c.layout_of-at.result.bytes ≡ length (stored_form (mesh_in c.args.mesh))
long c = bytes (mesh_in c.args.mesh) _ _ c.in_ok-check_tables.ensures (c.counts_in-counts.ensures ∙ c.places.ensures) c.layout_of-at.ensures

fits : (c : Else-buffer-at) → length (stored_form (mesh_in c.args.mesh)) ≤ length c.args.buffer.now
fits c = subst (λ (n : ℕ). n ≤ length c.args.buffer.now) (long c) c.if-buffer-at.false

-- what is answered is the count of these bytes
written : (c : Else-buffer-at) → let form = stored_form (mesh_in c.args.mesh) in
    Written (mesh_in c.args.mesh) c.args.buffer.now (Ok c.layout_of-at.result.bytes) (overwritten c.args.buffer.now form)
written c =
    let m = mesh_in c.args.mesh in
    let d = c.args.buffer.now in
    rw (long c) (accepted_writing m d (passed m c.in_ok-check_tables.ensures) (fits c))

pub returns-then-buffer-at-clause-answer : goal.returns-then-buffer-at-clause-answer
returns-then-buffer-at-clause-answer c = (refused (goal.at.returns-then-buffer-at-clause-answer c).Then-buffer-at).answer

pub returns-then-buffer-at-clause-output : goal.returns-then-buffer-at-clause-output
returns-then-buffer-at-clause-output c = (refused (goal.at.returns-then-buffer-at-clause-output c).Then-buffer-at).output

pub put_mesh-requires : goal.put_mesh-requires
put_mesh-requires c =
    let at = goal.at.put_mesh-requires c in
    (sym c.in_ok-check_tables.ensures, counts at.After-counts_in-counts, c.layout_of-at.ensures.width, fits at.Else-buffer-at)

pub returns-clause-answer : goal.returns-clause-answer
returns-clause-answer c = (written (goal.at.returns-clause-answer c).Else-buffer-at).answer

pub returns-clause-output : goal.returns-clause-output
returns-clause-output c = c.put_mesh.ensures ∙ (written (goal.at.returns-clause-output c).Else-buffer-at).output

pub returns-in_err-check_tables-clause-inverse : goal.returns-in_err-check_tables-clause-inverse
returns-in_err-check_tables-clause-inverse c =
    let p = err_from_is_err_and c.from_residual.result c.from_residual.ensures.1 in rw (p.1) tt

pub returns-clause-inverse : goal.returns-clause-inverse
returns-clause-inverse c =
    let w = written (goal.at.returns-clause-inverse c).Else-buffer-at in
    promised_mesh (mesh_in c.args.mesh) c.args.buffer.now _ _ w.answer (c.put_mesh.ensures ∙ w.output) refl
