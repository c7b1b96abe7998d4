use Rattle.std.proofs.Common.{map, ◌≡◌, ◌∙◌, ap, sym, length, arith, rules, tests}
use lib.ListN.{length-map}
use Rattle.std.specs.List.{filter}
use Rattle.std.proofs.lemmas.Iterator.{YieldsList-from_range}
use Rattle.std.proofs.lemmas.Iterator.Consumers.{count_from_yields_List, YieldsList-from_filter}
use Rattle.rules.specs.Lists.{key_of, up_from}
use Rattle.checks.specs.Walk.{parts_met}
use Rattle.checks.proofs.Library.{range-up_from}
use Rattle.checks.proofs.Counting.{is_new, count_distinct_lem}
use Rattle.checks.proofs.pairwise.count_distinct.Goals as goal

pub returns : goal.returns
returns c =
    let keys = map key_of (parts_met c.args.of c.args.mesh.tables) in
    let n = c.count_all.result in
    let e : n ≡ length keys = c.count_all.ensures ∙ sym (length-map (parts_met c.args.of c.args.mesh.tables) key_of) in
    count_from_yields_List c.filter.result _ c.count.ensures.ran
    (YieldsList-from_filter _ (is_new keys) (YieldsList-from_range 0 n n c.filter.ensures.source (omega arith)) c.filter.ensures.closure (λ x r q k. search (rules, tests)))
    ∙ ap (λ l. length (filter (is_new keys) l)) (range-up_from 0 n ∙ ap (up_from 0) e)
    ∙ count_distinct_lem keys
