-- The refusals, or the rounds.
use Rattle.std.proofs.Common.{refl}
use Rattle.std.proofs.lemmas.Result.{err_from_is_err_and}
use Rattle.rules.specs.declared.Refusal.TheVariants.{ShortBuffer}
use Rattle.plan.proofs.Plans.{plan_narrow}
use Rattle.refine.proofs.Decided.{short_lent, refused_by_plan, refused_as_short, decided_refused, refused_output, decided_ready, decided_answer, decided_written}
use Rattle.refine.proofs.run.run.Goals as goal

pub returns-in_err-growth-clause-answer : goal.returns-in_err-growth-clause-answer
returns-in_err-growth-clause-answer c =
    let p = err_from_is_err_and c.from_residual.result c.from_residual.ensures.1 in
    rw (p.1, p.2) (decided_refused _ _ _ _ _ _ _ (refused_by_plan _ _ _ _ _ _ _ c.in_err-growth.ensures))

pub returns-in_err-growth-clause-output : goal.returns-in_err-growth-clause-output
returns-in_err-growth-clause-output c = refused_output _ _ _ _ _ _ _ (refused_by_plan _ _ _ _ _ _ _ c.in_err-growth.ensures)

pub returns-then-is_short-clause-answer : goal.returns-then-is_short-clause-answer
returns-then-is_short-clause-answer c =
    decided_refused _ _ _ _ _ _ ShortBuffer (refused_as_short _ _ _ _ _ _ c.in_ok-growth.ensures _ (short_lent _ c.is_short.ensures c.by-lent.ensures) c.if-is_short.true)

pub returns-then-is_short-clause-output : goal.returns-then-is_short-clause-output
returns-then-is_short-clause-output c =
    refused_output _ _ _ _ _ _ ShortBuffer (refused_as_short _ _ _ _ _ _ c.in_ok-growth.ensures _ (short_lent _ c.is_short.ensures c.by-lent.ensures) c.if-is_short.true)

pub make_rounds-requires : goal.make_rounds-requires
make_rounds-requires c =
    decided_ready _ _ _ _ _ _ c.in_ok-growth.ensures _ (short_lent _ c.is_short.ensures c.by-lent.ensures) c.if-is_short.false _ c.plan.auto.words refl

pub counts_in-requires : goal.counts_in-requires
counts_in-requires c = plan_narrow c.in_ok-growth.ensures

pub returns-clause-answer : goal.returns-clause-answer
returns-clause-answer c =
    decided_answer _ _ _ _ _ _ c.in_ok-growth.ensures _ (short_lent _ c.is_short.ensures c.by-lent.ensures) c.if-is_short.false _ c.counts_in.ensures

pub returns-clause-output : goal.returns-clause-output
returns-clause-output c =
    decided_written _ _ _ _ _ _ c.in_ok-growth.ensures _ (short_lent _ c.is_short.ensures c.by-lent.ensures) c.if-is_short.false c.make_rounds.ensures.refined
