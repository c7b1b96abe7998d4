-- Cell c, and the cells behind it.
use Rattle.std.proofs.Common.{◌≡◌, ℕ, ◌+◌, ◌*◌, ◌<◌, [], List, length, get_or, take, drop, ap, sym, ◌∙◌, rules, tests}
use Rattle.std.proofs.lemmas.Iterator.Search.{any_from_yields_List}
use Rattle.rules.specs.Lists.{any, cut}
use Rattle.lists.proofs.Tables.{length_cut, cut_entry}
use Rattle.checks.specs.Held.{within}
use Rattle.checks.proofs.CornerSets.{cells_behind}
use Rattle.checks.proofs.Library.{any-list_any, YieldsList-from_cut}
use Rattle.checks.proofs.Slices.{rest_part}
use Rattle.checks.proofs.pairwise.fn.has_duplicate.any.Goals as goal

pub returns : goal.returns
returns c =
    let k = c.captures.k in
    let i = c.args.c in
    let table = c.captures.table.now in
    let cell = c.split_at.result.0.now in
    let behind = c.split_at.result.1.now in
    let l : i < length (cut k table) = rw (length_cut k table) c.requires.1 in
    let front : cell ≡ get_or (cut k table) i [] = c.split_at.ensures.front ∙ ap (take k) (rest_part (k * i) table) ∙ sym (cut_entry k i table [] c.requires.1) in
    let back : cut k behind ≡ drop (i + 1) (cut k table) =
    ap (cut k) (c.split_at.ensures.back ∙ ap (drop k) (rest_part (k * i) table)) ∙ cells_behind k table i c.requires.0 l in
    any_from_yields_List (within cell) _ _ _ c.any.ensures.ran (YieldsList-from_cut k behind c.requires.0 c.chunks_exact.ensures.size c.chunks_exact.ensures.rest) (λ x b q h. search (rules, tests))
    ∙ any-list_any (within cell) (cut k behind)
    ∙ ap (λ (a : List ℕ). any (within a) (cut k behind)) front
    ∙ ap (any (within (get_or (cut k table) i []))) back
