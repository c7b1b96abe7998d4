-- All working memory is cleared; what was written is accurate.
use Rattle.std.proofs.Common.{◌∙◌}
use Rattle.rounds.proofs.Lent.{lengths_kept}
use Rattle.refine.proofs.Written.{accurate_if_ok, in_range_on_ok, tables_same}
use Rattle.refine.proofs.refine.Goals as goal

pub returns-clause-tables : goal.returns-clause-tables
returns-clause-tables c = c.clear.ensures.after ∙ tables_same (lengths_kept c.run-refined.ensures.same_working)

pub returns-clause-accuracy : goal.returns-clause-accuracy
returns-clause-accuracy c = accurate_if_ok _ _ _ _ _ _ _ c.run-refined.ensures.answer _ c.run-refined.ensures.output

pub returns-clause-range : goal.returns-clause-range
returns-clause-range c = in_range_on_ok _ _ _ _ _ _ _ c.run-refined.ensures.answer
