-- The lowest dimension that has any decides.
use Rattle.std.proofs.Common.{sym, ◌∙◌}
use Rattle.rules.specs.Mesh.{topology}
use Rattle.lines.proofs.Held.{points_decide, segments_decide, quads_decide, hexes_decide}
use Rattle.lines.proofs.ranks.rank_of.Goals as goal

pub returns-then-points-ne0 : goal.returns-then-points-ne0
unfolding topology
returns-then-points-ne0 c =
    let e = c.count_holding-points.ensures in
    let d = points_decide _ _ (λ z. c.if-points-ne0.true (e ∙ z)) in
    record { ranks = d.ranks; counts = e ∙ d.counts }

pub returns-then-segments-ne0 : goal.returns-then-segments-ne0
unfolding topology
returns-then-segments-ne0 c =
    let e = c.count_holding-segments.ensures in
    let d = segments_decide _ _ (sym c.count_holding-points.ensures ∙ c.if-points-ne0.false) (λ z. c.if-segments-ne0.true (e ∙ z)) in
    record { ranks = d.ranks; counts = e ∙ d.counts }

pub returns-then-quads-ne0 : goal.returns-then-quads-ne0
unfolding topology
returns-then-quads-ne0 c =
    let e = c.count_holding-quads.ensures in
    let d = quads_decide _ _ (sym c.count_holding-points.ensures ∙ c.if-points-ne0.false) (sym c.count_holding-segments.ensures ∙ c.if-segments-ne0.false) (λ z. c.if-quads-ne0.true (e ∙ z)) in
    record { ranks = d.ranks; counts = e ∙ d.counts }

pub returns : goal.returns
unfolding topology
returns c =
    let e = c.count_holding.ensures in
    let d = hexes_decide _ _ (sym c.count_holding-points.ensures ∙ c.if-points-ne0.false) (sym c.count_holding-segments.ensures ∙ c.if-segments-ne0.false) (sym c.count_holding-quads.ensures ∙ c.if-quads-ne0.false) in
    record { ranks = d.ranks; counts = e ∙ d.counts }
