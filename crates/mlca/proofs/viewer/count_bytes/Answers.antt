-- Reading, and then the count of what was read.
use Rattle.std.proofs.Common.{refl, sym, ap, subst, ◌∙◌, ◌^◌, ◌<◌, length, arith}
use Rattle.std.proofs.lemmas.Result.{err_from_is_err_and}
use Rattle.rules.specs.declared.Counts.{Counts}
use Rattle.rules.specs.Mesh.{Mesh}
use Rattle.rules.specs.Counts.{counts_of}
use Rattle.rules.specs.EntryPoints.{front}
use Rattle.tables.specs.Lent.{mesh_in}
use Rattle.plan.proofs.Refusals.{not_zero}
use Rattle.fixed.proofs.Answers.{reading, read_front, read_room}
use Rattle.mlca.proofs.Numbers.{irregular_fits, fits_if_ok}
use Rattle.mlca.proofs.Calls.{irregular_number, reading_refused, then_counted, front_fits}
use Rattle.mlca.proofs.viewer.count_bytes.Goals as goal

pub returns-in_err-counts-clause-answer : goal.returns-in_err-counts-clause-answer
returns-in_err-counts-clause-answer c =
    let p = err_from_is_err_and c.from_residual.result c.from_residual.ensures.1 in
    let r = c.in_err-counts.ensures in
    rw (p.1, p.2) (reading_refused (reading c.lend-tables.ensures.sizes r.answer r.output) (not_zero _))

pub returns-in_err-counts-clause-fits : goal.returns-in_err-counts-clause-fits
returns-in_err-counts-clause-fits c =
    let p = err_from_is_err_and c.from_residual.result c.from_residual.ensures.1 in rw (p.1) tt

pub front-requires : goal.front-requires
front-requires c = let r = c.in_ok-counts.ensures in read_room (reading c.lend-tables.ensures.sizes r.answer r.output) refl c.as_mesh.ensures

pub returns-clause-answer : goal.returns-clause-answer
returns-clause-answer c =
    let r = c.in_ok-counts.ensures in
    let d = reading c.lend-tables.ensures.sizes r.answer r.output in
    irregular_number _ _ (rw (read_front d refl c.as_mesh.ensures c.front.ensures) at c.irregular_count.ensures.answer) ∙ then_counted d refl

pub returns-clause-fits : goal.returns-clause-fits
unfolding counts_of
returns-clause-fits c =
    let lent = ap (λ (n : Counts). n.vertices) c.lend-tables.ensures.sizes in
    let short = front_fits c.in_ok-counts.counts _ (2 ^ 63) (omega (arith, lent, c.in_ok-counts.ensures.same_slices.vertices.long)) in
    fits_if_ok _ _
    (irregular_fits (mesh_in c.front.result) _
    (subst (λ (m : Mesh). length m.vertices < 2 ^ 63) (sym (c.front.ensures ∙ ap (front c.in_ok-counts.counts) c.as_mesh.ensures)) short) c.irregular_count.ensures.answer)
