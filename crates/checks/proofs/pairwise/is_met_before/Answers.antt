use Rattle.std.proofs.Common.{ℕ, [], ◌∙◌, refl, get_or, rules, tests}
use Rattle.rules.specs.Lists.{key_of, same}
use Rattle.checks.specs.Walk.{parts_met}
use Rattle.checks.proofs.Library.{any_range}
use Rattle.checks.proofs.Counting.{met_before}
use Rattle.checks.proofs.pairwise.is_met_before.Goals as goal

pub returns : goal.returns
returns c =
    let ps = parts_met c.args.of c.args.mesh.tables in
    any_range (λ (j : ℕ). same (key_of (get_or ps c.args.i [])) (key_of (get_or ps j []))) c.args.i _ _ _ c.any.ensures.ran refl (λ x b q k. search (rules, tests))
    ∙ met_before ps c.args.i c.requires
