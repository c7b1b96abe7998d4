-- A weight is below 256 and a coordinate below 2 ^ 30, so that the total of at most 8 corners is below 2 ^ 41.
use Rattle.std.proofs.Common.{◌≡◌, ℕ, List, ◌*◌, ◌≤◌, ◌<◌, ◌^◌, ◌∙◌, length, get_or, [], arith, rules, ap, min}
use Rattle.std.specs.List.{zip}
use Rattle.std.specs.Iterator.Adapters.{map_source}
use Rattle.std.proofs.iter.Yields.{fronts}
use Rattle.std.proofs.lemmas.List.{get_or_default}
use Rattle.std.proofs.lemmas.Iterator.{YieldsList, zips, YieldsList-from_slice, YieldsList-from_zip, YieldsList-from_map}
use Rattle.std.proofs.lemmas.Iterator.Adapters.{serves_from_places, fits_from_length, at_most_from_yields_List}
use Rattle.std.proofs.lemmas.Iterator.Consumers.{YieldsList-at, sum_by_from_yields_List}
use Rattle.std.proofs.lemmas.Slice.Zip.{length-zip, get_or-zip}
use Rattle.averaging.specs.Pass.{weighed}
use Rattle.averaging.proofs.Sums.{pairs_total, pairs_few}
use Rattle.averaging.proofs.coordinates.Gathered.weigh.Given.{Over}
use Rattle.averaging.proofs.coordinates.Gathered.weigh.Goals as goal
use Rattle.averaging.proofs.coordinates.Gathered.weigh.Goals.{After-map}

-- the weights and corners side by side
pairs : (g : Over) (c : After-map g) → YieldsList (zips fronts fronts) (λ p. (p.0.now, p.1.now)) (map_source c.map.result) (zip c.args.row.now c.args.self.now.corners)
pairs g c =
    YieldsList-at c.map.ensures.source
    (YieldsList-from_zip (YieldsList-at c.zip.ensures.first (YieldsList-from_slice c.args.row.now c.iter.ensures.rest)) (YieldsList-from_slice c.args.self.now.corners c.zip.ensures.second.0))

pub sum-requires-clause-can : goal.sum-requires-clause-can
sum-requires-clause-can g c =
    let row = c.args.row.now in
    let corners = c.args.self.now.corners in (
      (tt, tt),
      serves_from_places (pairs g c) (λ x q h. search rules) (λ x k l e.
          let n : k < g.row.N = omega (arith, l, length-zip row corners, c.told-row) in
          let whole : k < length corners = omega (arith, n, c.args.self.now.whole) in
          let here : x.1.now ≡ get_or corners k [] = ap (λ p. p.1) (e ∙ get_or-zip row corners k _ (omega (arith, n, c.told-row)) whole) ∙ get_or_default corners k _ [] whole in
          rw (ap (λ w. w.0.now) c.map.ensures.closure, here) (c.requires, c.args.self.now.below k c.args.axis n c.requires)),
    )

pub sum-requires-clause-fits : goal.sum-requires-clause-fits
sum-requires-clause-fits g c =
    let row = c.args.row.now in
    let corners = c.args.self.now.corners in
    let most : length (zip row corners) ≤ 8 = omega (arith, length-zip row corners, c.told-row, c.args.self.now.few) in
    fits_from_length _ _ 8 _ (at_most_from_yields_List (pairs g c) most) c.map.ensures.closure (omega arith) (λ x r q k. search rules)

-- what the chain yields is each product, and as well each product cut to 255 * 2 ^ 30
pub returns : goal.returns
unfolding weighed
returns g c =
    let row = c.args.row.now in
    let corners = c.args.self.now.corners in
    let at : List ℕ → ℕ = λ x. get_or x c.args.axis 0 in
    let both = pairs g (goal.at.returns g c).After-map in
    let product : ℕ × List ℕ → ℕ = λ p. p.0 * at p.1 in
    let cut : ℕ × List ℕ → ℕ = λ p. min (product p) (255 * 2 ^ 30) in
    let total = sum_by_from_yields_List product (zip row corners) _ _ c.sum.ensures.ran (YieldsList-from_map _ product both c.map.ensures.closure (λ x r q k. search rules)) in
    let bounded = sum_by_from_yields_List cut (zip row corners) _ _ c.sum.ensures.ran (YieldsList-from_map _ cut both c.map.ensures.closure (λ x r q k. search rules)) in (
      total ∙ rw (← c.told-row) (pairs_total at row corners [] (omega (arith, c.told-row, c.args.self.now.whole))),
      omega (arith, bounded, pairs_few at (255 * 2 ^ 30) row corners, c.told-row, c.args.self.now.few),
    )
