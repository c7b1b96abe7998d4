use Rattle.std.proofs.Common.{ℕ, List, [], ◌∙◌, ap, refl, get_or, rules, tests}
use Rattle.rules.specs.Lists.{any, up_from}
use Rattle.rules.specs.Refusals.{mismatched, mismatched_face}
use Rattle.checks.specs.declared.parts.Part.TheVariants.{Face}
use Rattle.checks.specs.Walk.{parts_met}
use Rattle.checks.proofs.Library.{any_range, any_places}
use Rattle.checks.proofs.pairwise.has_mismatched_face.Goals as goal

pub returns : goal.returns
unfolding mismatched_face
returns c =
    let fs = parts_met Face c.args.mesh.tables in
    let test = λ (f : List ℕ). any (mismatched f) fs in
    any_range (λ (i : ℕ). test (get_or fs i [])) c.count_all.result _ _ _ c.any.ensures.ran refl (λ x b q k. search (rules, tests))
    ∙ ap (λ (n : ℕ). any (λ (i : ℕ). test (get_or fs i [])) (up_from 0 n)) c.count_all.ensures
    ∙ any_places test fs []
