use Rattle.std.proofs.Common.{ℕ, ◌*◌, ◌/◌, ◌%◌, ◌^◌, ap, arith, lit<, rules, ◌∙◌, of_calls}
use Rattle.std.proofs.lemmas.Iterator.{YieldsList-from_slice, YieldsList-from_map}
use Rattle.std.proofs.lemmas.Iterator.Consumers.{sum_by_from_yields_List, fits_by_from_yields_list, YieldsList-at}
use Rattle.checks.specs.Classes.{squared, class_of}
use Rattle.checks.proofs.ClassLaws.{class_below, sum_total, total_few}
use Rattle.checks.proofs.classes.class_of.Goals as goal

-- one class holds all
pub returns-then-classes-eq1 : goal.returns-then-classes-eq1
returns-then-classes-eq1 c = let h = class_below 1 (lit< tt) c.args.corners.now in rw c.if-classes-eq1.true (omega (arith, h))

pub sum-sum-requires : goal.sum-sum-requires
sum-sum-requires c =
    let p = c.args.corners.now in
    record {
      can = search of_calls;
      finite = search of_calls;
      fits = fits_by_from_yields_list squared p c.map.result _ (YieldsList-from_map _ squared (YieldsList-at c.map.ensures.source (YieldsList-from_slice p c.iter.ensures.rest)) c.map.ensures.closure (λ x r q k. search rules)) (rw (sum_total p) (omega (arith, total_few p)));
    }

pub returns : goal.returns
unfolding class_of
returns c =
    let p = c.args.corners.now in
    ap (λ (n : ℕ). n % 2 ^ 32 * 1640531527 % 2 ^ 32 * c.args.classes / 2 ^ 32)
    (sum_by_from_yields_List squared p c.map.result _ c.sum-sum.ensures.ran (YieldsList-from_map _ squared (YieldsList-at c.map.ensures.source (YieldsList-from_slice p c.iter.ensures.rest)) c.map.ensures.closure (λ x r q k. search rules))
    ∙ sum_total p)
