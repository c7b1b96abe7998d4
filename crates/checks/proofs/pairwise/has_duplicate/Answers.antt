use Rattle.std.proofs.Common.{ℕ, ◌+◌, ◌/◌, [], ◌∙◌, ap, sym, refl, get_or, drop, length, rules, tests}
use Rattle.rules.specs.Lists.{any, cut, up_from}
use Rattle.lists.proofs.Tables.{length_cut}
use Rattle.checks.specs.Held.{within}
use Rattle.checks.proofs.Library.{any_range, repeats_places}
use Rattle.checks.proofs.CornerSets.{duplicates_within}
use Rattle.checks.proofs.pairwise.has_duplicate.Goals as goal

pub returns : goal.returns
returns c =
    let k = c.args.k in
    let table = c.args.table.now in
    let cells = cut k table in
    let test = λ (i : ℕ). any (within (get_or cells i [])) (drop (i + 1) cells) in
    any_range test (length table / k) _ _ _ c.any.ensures.ran refl (λ x b q k. search (rules, tests))
    ∙ ap (λ (n : ℕ). any test (up_from 0 n)) (sym (length_cut k table))
    ∙ repeats_places within cells []
    ∙ duplicates_within k table c.requires.no_repeated_corner
