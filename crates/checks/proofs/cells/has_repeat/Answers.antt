-- Each corner is sought among those behind it.
use Rattle.std.proofs.Common.{ℕ, ◌+◌, eqb, refl, ◌∙◌, get_or, drop, length, rules, tests}
use Rattle.rules.specs.Lists.{has}
use Rattle.checks.proofs.Library.{any_range, repeats_places}
use Rattle.checks.proofs.Slices.{rest_part}
use Rattle.checks.proofs.cells.has_repeat.Goals as goal

pub returns : goal.returns
unfolding has
returns c =
    let xs = c.args.cell.now in
    any_range (λ (i : ℕ). has (get_or xs i 0) (drop (i + 1) xs)) (length xs) _ _ _ c.any.ensures.ran refl (λ x b q k. search (rules, tests, rest_part))
    ∙ repeats_places eqb xs 0
