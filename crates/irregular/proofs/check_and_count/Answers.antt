-- The refusal, or the count.
use Rattle.std.proofs.lemmas.Result.{err_from_is_err_and}
use Rattle.irregular.proofs.Answered.{irregular_refused, counted_answer}
use Rattle.irregular.proofs.check_and_count.Goals as goal

pub returns-in_err-check_mesh : goal.returns-in_err-check_mesh
returns-in_err-check_mesh c =
    let p = err_from_is_err_and c.from_residual.result c.from_residual.ensures.1 in
    rw (p.1, p.2) (irregular_refused _ _ c.in_err-check_mesh.ensures)

pub returns : goal.returns
returns c = counted_answer _ c.in_ok-check_mesh.ensures.0 _ c.count.ensures
