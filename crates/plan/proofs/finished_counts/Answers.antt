-- The plan's refusal, or the counts among its finished sizes.
use Rattle.std.proofs.lemmas.Result.{err_from_is_err_and}
use Rattle.plan.proofs.Plans.{plan_narrow, plan_answer, plan_refused}
use Rattle.plan.proofs.finished_counts.Goals as goal

pub returns-in_err-planned-clause-answer : goal.returns-in_err-planned-clause-answer
returns-in_err-planned-clause-answer c =
    let p = err_from_is_err_and c.from_residual.result c.from_residual.ensures.1 in
    rw (p.1, p.2) (plan_refused _ _ _ c.in_err-planned.ensures)

pub counts_in-requires : goal.counts_in-requires
counts_in-requires c = plan_narrow c.in_ok-planned.ensures

pub returns-clause-answer : goal.returns-clause-answer
returns-clause-answer c = plan_answer c.in_ok-planned.ensures _ c.counts_in.ensures
