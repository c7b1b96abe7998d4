-- Refining of a stored mesh, and then writing.
use Rattle.std.proofs.Common.{refl, ◌∙◌, arith}
use Rattle.std.proofs.lemmas.Result.{err_from_is_err_and}
use Rattle.tables.specs.Lent.{mesh_in}
use Rattle.plan.proofs.Refusals.{not_zero}
use Rattle.fixed.proofs.Finished.{refining, finished_mesh, finished_room}
use Rattle.mlca.proofs.Numbers.{bytes_fit, fits_if_ok}
use Rattle.mlca.proofs.Calls.{writing_number, refining_refused, refining_kept, written_answer, written_output}
use Rattle.mlca.proofs.viewer.refine_bytes.Goals as goal

pub returns-in_err-counts-clause-answer : goal.returns-in_err-counts-clause-answer
returns-in_err-counts-clause-answer c =
    let p = err_from_is_err_and c.from_residual.result c.from_residual.ensures.1 in
    let r = c.in_err-counts.ensures in
    rw (p.1, p.2) (refining_refused (refining r.answer r.output) c.args.res.now (not_zero _))

pub returns-in_err-counts-clause-output : goal.returns-in_err-counts-clause-output
returns-in_err-counts-clause-output c =
    let r = c.in_err-counts.ensures in refining_kept (refining r.answer r.output) c.args.res.now (not_zero _)

pub returns-in_err-counts-clause-fits : goal.returns-in_err-counts-clause-fits
returns-in_err-counts-clause-fits c =
    let p = err_from_is_err_and c.from_residual.result c.from_residual.ensures.1 in rw (p.1) tt

pub front-requires : goal.front-requires
front-requires c = let r = c.in_ok-counts.ensures in finished_room (refining r.answer r.output) refl c.as_mesh.ensures

pub returns-clause-answer : goal.returns-clause-answer
returns-clause-answer c =
    let r = c.in_ok-counts.ensures in
    let d = refining r.answer r.output in
    writing_number _ c.args.res.now _ (rw (finished_mesh d refl c.as_mesh.ensures c.front.ensures) at c.write.ensures.answer) ∙ written_answer d c.args.res.now refl

pub returns-clause-output : goal.returns-clause-output
returns-clause-output c =
    let r = c.in_ok-counts.ensures in
    let d = refining r.answer r.output in
    (rw (finished_mesh d refl c.as_mesh.ensures c.front.ensures) at c.write.ensures.output) ∙ written_output d c.args.res.now refl

pub returns-clause-fits : goal.returns-clause-fits
returns-clause-fits c = fits_if_ok _ _ (bytes_fit (mesh_in c.front.result) c.args.res.now _ (omega arith) c.write.ensures.answer)
