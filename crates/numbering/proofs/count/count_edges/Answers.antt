use Rattle.std.proofs.Common.{List, subst, append_assoc}
use Rattle.rules.specs.Lists.{Key}
use Rattle.numbering.specs.declared.parts.Parts.TheVariants.{HexEdges, QuadEdges, Segments}
use Rattle.numbering.specs.Parts.{table_keys}
use Rattle.numbering.specs.Count.{CountOf, edge_keys}
use Rattle.numbering.proofs.Passes.{met_append, counted}
use Rattle.numbering.proofs.count.count_edges.Goals as goal

pub returns : goal.returns
unfolding edge_keys
returns c =
    let h = c.in_ok-by_hexes.ensures in
    let q = c.in_ok-by_quads.ensures in
    let x = c.args in
    let r = c.meet_table_of-3 in
    let last = table_keys Segments x.segments.now in
    subst (λ (ks : List Key). CountOf ks r.result) (append_assoc (table_keys HexEdges x.hexes.now) (table_keys QuadEdges x.quads.now) last)
    (counted (met_append h q) _ last r.result r.ensures)
