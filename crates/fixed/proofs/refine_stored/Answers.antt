-- Reading, and then refining of what was read.
use Rattle.std.proofs.Common.{refl}
use Rattle.std.proofs.lemmas.Result.{err_from_is_err_and}
use Rattle.plan.proofs.Refusals.{not_zero}
use Rattle.fixed.proofs.Answers.{reading, read_refused, read_kept, then_refining, read_front, read_room}
use Rattle.fixed.proofs.refine_stored.Goals as goal

pub returns-in_err-counts-clause-answer : goal.returns-in_err-counts-clause-answer
returns-in_err-counts-clause-answer c =
    let p = err_from_is_err_and c.from_residual.result c.from_residual.ensures.1 in
    let r = c.in_err-counts.ensures in
    rw (p.1, p.2) (read_refused (reading c.lend-tables.ensures.sizes r.answer r.output) (not_zero _) c.args.rounds)

pub returns-in_err-counts-clause-output : goal.returns-in_err-counts-clause-output
returns-in_err-counts-clause-output c =
    let r = c.in_err-counts.ensures in read_kept (reading c.lend-tables.ensures.sizes r.answer r.output) (not_zero _) c.args.rounds _

pub front-requires : goal.front-requires
front-requires c = let r = c.in_ok-counts.ensures in read_room (reading c.lend-tables.ensures.sizes r.answer r.output) refl c.as_mesh.ensures

pub returns-clause-answer : goal.returns-clause-answer
returns-clause-answer c =
    let r = c.in_ok-counts.ensures in
    let d = reading c.lend-tables.ensures.sizes r.answer r.output in
    rw (then_refining d refl c.args.rounds) (rw (read_front d refl c.as_mesh.ensures c.front.ensures) at c.refine_mesh.ensures.answer)

pub returns-clause-output : goal.returns-clause-output
returns-clause-output c =
    let r = c.in_ok-counts.ensures in
    let d = reading c.lend-tables.ensures.sizes r.answer r.output in
    rw (then_refining d refl c.args.rounds) (rw (read_front d refl c.as_mesh.ensures c.front.ensures) at c.refine_mesh.ensures.output)
