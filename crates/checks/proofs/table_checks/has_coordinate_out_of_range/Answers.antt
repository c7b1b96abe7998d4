use Rattle.std.proofs.Common.{ℤ, Bool, ◌||◌, rules, tests, ◌∙◌}
use Rattle.std.proofs.lemmas.Iterator.{YieldsList-from_slice}
use Rattle.std.proofs.lemmas.Iterator.Consumers.{fold_from_yields_List}
use Rattle.rules.specs.Refusals.{outside}
use Rattle.checks.proofs.Library.{fold_any}
use Rattle.checks.proofs.table_checks.has_coordinate_out_of_range.Goals as goal

pub returns : goal.returns
returns c =
    fold_from_yields_List _ (λ (b : Bool) (x : ℤ). b || outside x) _ _ c.fold.ensures.ran (YieldsList-from_slice c.args.xs.now c.iter.ensures.rest) (λ a x b q k. search (rules, tests))
    ∙ fold_any outside c.args.xs.now
