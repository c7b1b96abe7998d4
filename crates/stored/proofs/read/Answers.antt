-- The checks of the file, the room of the lent tables, and then the tables (`Answers`).
use Rattle.std.proofs.Common.{◌≡◌, Bool, false, refl, sym, ap, ap₂, ◌∙◌}
use Rattle.std.proofs.lemmas.Result.{err_from_is_err_and}
use Rattle.std.specs.Prelude.{Ok, Err}
use Rattle.rules.specs.declared.Counts.{Counts}
use Rattle.rules.specs.declared.Sizes.{Sizes}
use Rattle.rules.specs.declared.Refusal.TheVariants.{ShortBuffer}
use Rattle.rules.specs.Mesh.{Mesh}
use Rattle.rules.specs.Counts.{counts_of, counts_in, fewer}
use Rattle.rules.specs.EntryPoints.{result_tables}
use Rattle.rules.specs.StoredForm.{stored_mesh}
use Rattle.tables.specs.Lent.{mesh_at}
use Rattle.stored.proofs.Answers.{Read, file_refused, tables_refused, accepted_reading, tables_read, promised_bytes}
use Rattle.stored.proofs.FileChecks.{heads}
use Rattle.stored.proofs.read.Goals as goal
use Rattle.stored.proofs.read.Goals.{Then-fewer, Else-fewer}

pub returns-in_err-counts-clause-answer : goal.returns-in_err-counts-clause-answer
returns-in_err-counts-clause-answer c =
    let p = err_from_is_err_and c.from_residual.result c.from_residual.ensures.1 in
    rw (p.1, p.2) (file_refused c.args.bytes.now (mesh_at c.args.tables.now) _ c.in_err-counts.ensures).answer

pub returns-in_err-counts-clause-output : goal.returns-in_err-counts-clause-output
returns-in_err-counts-clause-output c = (file_refused c.args.bytes.now (mesh_at c.args.tables.now) _ c.in_err-counts.ensures).output

-- the room that is compared is that of the lent tables
room : (t : Mesh) (c : Counts) (lent needed : Sizes) (b r : Bool) → counts_in lent ≡ counts_of t → counts_in needed ≡ c
    → r ≡ fewer (counts_in lent) (counts_in needed) → r ≡ b → fewer (counts_of t) c ≡ b
room t c lent needed b r l n e h = ap₂ fewer (sym l) (sym n) ∙ sym e ∙ h

short : (c : Then-fewer) → let t = mesh_at c.args.tables.now in Read c.args.bytes.now t (Err ShortBuffer) t
short c =
    tables_refused c.args.bytes.now (mesh_at c.args.tables.now) _ c.in_ok-counts.ensures
    (room _ _ _ _ _ _ (c.places.ensures ∙ ap counts_of c.as_mesh.ensures) c.from.ensures.0 c.fewer.ensures c.if-fewer.true)

free : (c : Else-fewer) → fewer (counts_of (mesh_at c.args.tables.now)) c.in_ok-counts.counts ≡ false
free c = room _ _ _ _ _ _ (c.places.ensures ∙ ap counts_of c.as_mesh.ensures) c.from.ensures.0 c.fewer.ensures c.if-fewer.false

read : (c : Else-fewer)
    → let t = mesh_at c.args.tables.now in Read c.args.bytes.now t (Ok c.in_ok-counts.counts) (result_tables 0 t (stored_mesh c.args.bytes.now))
read c = tables_read c.args.bytes.now (mesh_at c.args.tables.now) _ c.in_ok-counts.ensures (free c)

pub returns-then-fewer-clause-answer : goal.returns-then-fewer-clause-answer
returns-then-fewer-clause-answer c = (short (goal.at.returns-then-fewer-clause-answer c).Then-fewer).answer

pub returns-then-fewer-clause-output : goal.returns-then-fewer-clause-output
returns-then-fewer-clause-output c = (short (goal.at.returns-then-fewer-clause-output c).Then-fewer).output

pub invariant_of-store_tables : goal.invariant_of-store_tables
invariant_of-store_tables c = record { passed = heads c.args.bytes.now _ c.in_ok-counts.ensures }

pub store_tables-requires : goal.store_tables-requires
store_tables-requires c =
    accepted_reading c.args.bytes.now (mesh_at c.args.tables.now) _ c.in_ok-counts.ensures (free (goal.at.store_tables-requires c).Else-fewer)

pub returns-clause-answer : goal.returns-clause-answer
returns-clause-answer c = (read (goal.at.returns-clause-answer c).Else-fewer).answer

pub returns-clause-output : goal.returns-clause-output
returns-clause-output c = c.store_tables.ensures.after ∙ (read (goal.at.returns-clause-output c).Else-fewer).output

pub returns-in_err-counts-clause-inverse : goal.returns-in_err-counts-clause-inverse
returns-in_err-counts-clause-inverse c =
    let p = err_from_is_err_and c.from_residual.result c.from_residual.ensures.1 in rw (p.1) tt

pub returns-clause-inverse : goal.returns-clause-inverse
returns-clause-inverse c =
    let r = read (goal.at.returns-clause-inverse c).Else-fewer in
    promised_bytes c.args.bytes.now (mesh_at c.args.tables.now) _ _ r.answer (c.store_tables.ensures.after ∙ r.output) (λ j. (c.type_inv.bytes j).fits) refl
