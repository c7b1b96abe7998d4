-- The entries of the table that hold the vertex are what is counted.
use Rattle.std.proofs.Common.{◌<◌, ◌^◌, refl, sym, rules, tests, arith, ap, ◌∙◌, length, cond, List, ℕ}
use Rattle.std.specs.List.{sum_by}
use Rattle.std.specs.Iterator.Adapters.{map_source}
use Rattle.std.proofs.iter.Yields.{fronts}
use Rattle.std.proofs.lemmas.List.Sums.{length-filter, count_by-le-length}
use Rattle.std.proofs.lemmas.Iterator.{YieldsList, YieldsList-from_slice, YieldsList-from_map}
use Rattle.std.proofs.lemmas.Iterator.Consumers.{YieldsList-at, sum_by_from_yields_List, fits_by_from_yields_list}
use Rattle.rules.specs.Lists.{has}
use Rattle.rules.specs.Averaging.{holding}
use Rattle.lines.proofs.Held.{chunks_cut, filter_keep}
use Rattle.lines.proofs.ranks.count_holding.Given.{Over}
use Rattle.lines.proofs.ranks.count_holding.Goals as goal
use Rattle.lines.proofs.ranks.count_holding.Goals.{After-map}

-- the entries, one by one
entries : (g : Over) (c : After-map g) → YieldsList fronts (λ y. y.now) (map_source c.map.result) c.as_chunks.result.0.now
entries g c = YieldsList-at c.map.ensures.source (YieldsList-from_slice c.as_chunks.result.0.now c.iter.ensures.rest)

pub sum-requires-clause-fits : goal.sum-requires-clause-fits
sum-requires-clause-fits g c =
    let cells = c.as_chunks.result.0.now in
    let one : List ℕ → ℕ = λ x. cond (has c.args.v x) 1 0 in
    let few : sum_by one cells < 2 ^ 64 = omega (arith, count_by-le-length (has c.args.v) cells, c.iter.ensures.bound) in
    fits_by_from_yields_list one cells _ _ (YieldsList-from_map _ one (entries g c) c.map.ensures.closure (λ x r q k. search (rules, tests))) few

pub returns : goal.returns
unfolding holding
returns g c =
    let k = g.row.C in
    let table = c.args.table.now in
    let cells = c.as_chunks.result.0.now in
    let test = has c.args.v in
    let one : List ℕ → ℕ = λ x. cond (test x) 1 0 in
    let total = sum_by_from_yields_List one cells _ _ c.sum.ensures.ran (YieldsList-from_map _ one (entries g (goal.at.returns g c).After-map) c.map.ensures.closure (λ x r q k. search (rules, tests))) in
    total
    ∙ sym (length-filter test cells)
    ∙ ap length (filter_keep test test (λ cell. refl) cells ∙ ap (holding c.args.v) (c.as_chunks.ensures.front ∙ chunks_cut k table))
