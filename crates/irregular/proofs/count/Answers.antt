-- With the lent numbers, or with its own.
use Rattle.std.proofs.Common.{sym, ◌∙◌}
use Rattle.soundness.proofs.Checks.{checks_accept}
use Rattle.irregular.proofs.Valences.{few_corners, accepted_count}
use Rattle.irregular.proofs.count.Goals as goal

pub invariant_of-few : goal.invariant_of-few
invariant_of-few c = record { few = few_corners _ (checks_accept _ c.requires) }

pub invariant_of-few-2 : goal.invariant_of-few-2
invariant_of-few-2 c = record { few = few_corners _ (checks_accept _ c.requires) }

pub returns-then-is_little : goal.returns-then-is_little
returns-then-is_little c = c.count_alone.ensures ∙ sym (accepted_count _ (checks_accept _ c.requires))

pub returns : goal.returns
returns c = c.count.ensures ∙ sym (accepted_count _ (checks_accept _ c.requires))
