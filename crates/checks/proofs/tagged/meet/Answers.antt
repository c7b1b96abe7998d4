use Rattle.std.proofs.Common.{arith}
use Rattle.checks.proofs.TaggedLaws.{meets_new, stays_tagged, meets_other}
use Rattle.checks.proofs.tagged.meet.Goals as goal

pub returns-then-n-met-clause-met : goal.returns-then-n-met-clause-met
returns-then-n-met-clause-met c =
    meets_new c.args.tag c.requires c.size-size.ensures (omega arith) c.in-Some.ensures c.meet.auto.w c.if-n-met.true

pub returns-then-w-at-clause-holds : goal.returns-then-w-at-clause-holds
returns-then-w-at-clause-holds c =
    stays_tagged c.args.tag c.requires c.size-size.ensures (omega arith) c.in-Some.ensures c.meet.auto.w c.if-n-met.false

pub returns-then-w-at-clause-met : goal.returns-then-w-at-clause-met
returns-then-w-at-clause-met c =
    meets_other c.args.tag c.requires c.size-size.ensures (omega arith) c.in-Some.ensures c.meet.auto.w c.if-n-met.false c.if-w-at.true
