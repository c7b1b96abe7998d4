use Rattle.std.proofs.Common.{ℕ, [], ◌∙◌, ap, refl, get_or, rules, tests}
use Rattle.rules.specs.Lists.{any, up_from}
use Rattle.rules.specs.Refusals.{mismatched}
use Rattle.checks.specs.declared.parts.Part.TheVariants.{Face}
use Rattle.checks.specs.Walk.{parts_met}
use Rattle.checks.proofs.Library.{any_range, any_places}
use Rattle.checks.proofs.pairwise.has_mismatch.Goals as goal

pub returns : goal.returns
returns c =
    let fs = parts_met Face c.args.mesh.tables in
    let test = λ (j : ℕ). mismatched (get_or fs c.args.i []) (get_or fs j []) in
    any_range test c.count_all.result _ _ _ c.any.ensures.ran refl (λ x b q k. search (rules, tests))
    ∙ ap (λ (n : ℕ). any test (up_from 0 n)) c.count_all.ensures
    ∙ any_places (mismatched (get_or fs c.args.i [])) fs []
