-- Each cell by its number.
use Rattle.std.proofs.Common.{ℕ, ◌/◌, [], eqb, refl, ◌∙◌, ap, sym, get_or, length, rules, tests}
use Rattle.rules.specs.Lists.{any, repeats, cut, up_from}
use Rattle.lists.proofs.Tables.{length_cut}
use Rattle.checks.proofs.Library.{any_range, any_places}
use Rattle.checks.proofs.cells.any_repeat.Goals as goal

pub returns : goal.returns
returns c =
    let k = c.args.k in
    let table = c.args.table.now in
    let cells = cut k table in
    let test = λ (i : ℕ). repeats eqb (get_or cells i []) in
    any_range test (length table / k) _ _ _ c.any.ensures.ran refl (λ x b q k. search (rules, tests))
    ∙ ap (λ (n : ℕ). any test (up_from 0 n)) (sym (length_cut k table))
    ∙ any_places (repeats eqb) cells []
