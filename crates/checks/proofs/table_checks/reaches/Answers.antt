use Rattle.std.proofs.Common.{leb, Bool, ℕ, ◌||◌, get_or, sym, rules, tests, ◌∙◌, arith}
use Rattle.std.proofs.lemmas.Bool.{lt-leb}
use Rattle.std.proofs.lemmas.Iterator.{YieldsList-from_slice}
use Rattle.std.proofs.lemmas.Iterator.Consumers.{fold_from_yields_List}
use Rattle.lists.proofs.Tests.{at_none}
use Rattle.checks.proofs.Library.{fold_any}
use Rattle.checks.proofs.table_checks.reaches.Goals as goal

-- what does not fit 32 bits is above all corners
pub returns-in_default : goal.returns-in_default
returns-in_default c =
    sym (at_none (leb c.args.n) c.args.table.now 0 (λ i l. lt-leb c.args.n (get_or c.args.table.now i 0) (omega (arith, c.type_inv.table i, c.in_default.ensures))))

pub returns : goal.returns
returns c =
    fold_from_yields_List _ (λ (b : Bool) (x : ℕ). b || leb c.in-Ok.n x) _ _ c.fold.ensures.ran (YieldsList-from_slice c.args.table.now c.iter.ensures.rest) (λ a x b q k. search (rules, tests))
    ∙ rw c.in-Ok.ensures.1 (fold_any (leb c.args.n) c.args.table.now)
