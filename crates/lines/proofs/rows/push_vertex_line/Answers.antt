-- The numbers of a vertex's line.
use Rattle.std.proofs.Common.{ℕ, List, pos, sym, ap, ◌∙◌, subst, arith}
use Rattle.tables.specs.Lent.{mesh_in}
use Rattle.lines.specs.Appended.{Room, Appended}
use Rattle.lines.proofs.Longest.{rank_small, valence_small, vertex_shown}
use Rattle.lines.proofs.rows.push_vertex_line.Goals as goal

pub overflow_cast-numbers : goal.overflow_cast-numbers
overflow_cast-numbers c =
    let r = c.rank_of-ranked.ensures in
    record { sfits = omega (arith, r.ranks, r.counts, rank_small _ c.args.fitting.fits c.args.v, valence_small _ c.args.fitting.fits c.args.v) }

pub overflow_cast-numbers-2 : goal.overflow_cast-numbers-2
overflow_cast-numbers-2 c =
    let r = c.rank_of-ranked.ensures in
    record { sfits = omega (arith, r.ranks, r.counts, rank_small _ c.args.fitting.fits c.args.v, valence_small _ c.args.fitting.fits c.args.v) }

pub push_line-requires : goal.push_line-requires
push_line-requires c =
    let r = c.rank_of-ranked.ensures in
    let number = c.from.ensures ∙ ap pos (omega arith) in
    let shown = vertex_shown (mesh_in c.args.fitting.tables) c.args.fitting.fits c.args.v c.requires.v_in_bounds number c.from-2.ensures c.from-3.ensures c.from-4.ensures r.ranks r.counts in
    subst (λ (bytes : List ℕ). Room c.args.out.now bytes) (sym shown) c.requires.room

pub returns : goal.returns
returns c =
    let r = c.rank_of-ranked.ensures in
    let number = c.from.ensures ∙ ap pos (omega arith) in
    let shown = vertex_shown (mesh_in c.args.fitting.tables) c.args.fitting.fits c.args.v c.requires.v_in_bounds number c.from-2.ensures c.from-3.ensures c.from-4.ensures r.ranks r.counts in
    subst (λ (bytes : List ℕ). Appended c.args.out.now c.push_line.new.self bytes) shown c.push_line.ensures
