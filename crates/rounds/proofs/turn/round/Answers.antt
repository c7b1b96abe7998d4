-- The fine cells, and then the means (proofs/OneRound.antt).
use Rattle.std.proofs.Common.{arith}
use Rattle.tables.proofs.Five.{length_part}
use Rattle.rounds.proofs.Turns.{small_bounded}
use Rattle.rounds.proofs.OneRound.{finer_small, finer_places, split_ready, split_places, average_ready, round_holds}
use Rattle.rounds.proofs.turn.round.Goals as goal

pub split-requires-clause-ready : goal.split-requires-clause-ready
split-requires-clause-ready c = split_ready c.requires

pub split-requires-clause-places : goal.split-requires-clause-places
split-requires-clause-places c = split_places c.requires

pub next_sizes-finer-requires : goal.next_sizes-finer-requires
next_sizes-finer-requires c = small_bounded c.args.sizes c.requires.small

pub overflow_mul-fine : goal.overflow_mul-fine
overflow_mul-fine c = omega (arith, (finer_small c.requires c.next_sizes-finer.ensures).0)

pub overflow_mul-fine-2 : goal.overflow_mul-fine-2
overflow_mul-fine-2 c = omega (arith, (finer_small c.requires c.next_sizes-finer.ensures).1)

pub overflow_mul-fine-3 : goal.overflow_mul-fine-3
overflow_mul-fine-3 c = omega (arith, (finer_small c.requires c.next_sizes-finer.ensures).2)

pub slice_bounds-fine-end : goal.slice_bounds-fine-end
slice_bounds-fine-end c = omega (arith, c.split.auto.out_hexes, (finer_places c.requires c.next_sizes-finer.ensures).0)

pub slice_bounds-fine-end-2 : goal.slice_bounds-fine-end-2
slice_bounds-fine-end-2 c = length_part _ _ (omega (arith, c.split.auto.out_hexes, (finer_places c.requires c.next_sizes-finer.ensures).0))

pub slice_bounds-fine-end-3 : goal.slice_bounds-fine-end-3
slice_bounds-fine-end-3 c = omega (arith, c.split.auto.out_quads, (finer_places c.requires c.next_sizes-finer.ensures).1)

pub slice_bounds-fine-end-4 : goal.slice_bounds-fine-end-4
slice_bounds-fine-end-4 c = length_part _ _ (omega (arith, c.split.auto.out_quads, (finer_places c.requires c.next_sizes-finer.ensures).1))

pub slice_bounds-fine-end-5 : goal.slice_bounds-fine-end-5
slice_bounds-fine-end-5 c = omega (arith, c.split.auto.out_segments, (finer_places c.requires c.next_sizes-finer.ensures).2)

pub slice_bounds-fine-end-6 : goal.slice_bounds-fine-end-6
slice_bounds-fine-end-6 c = length_part _ _ (omega (arith, c.split.auto.out_segments, (finer_places c.requires c.next_sizes-finer.ensures).2))

pub slice_bounds-fine-end-7 : goal.slice_bounds-fine-end-7
slice_bounds-fine-end-7 c = omega (arith, c.split.auto.out_points, (finer_places c.requires c.next_sizes-finer.ensures).3)

pub slice_bounds-fine-end-8 : goal.slice_bounds-fine-end-8
slice_bounds-fine-end-8 c = length_part _ _ (omega (arith, c.split.auto.out_points, (finer_places c.requires c.next_sizes-finer.ensures).3))

pub average-requires : goal.average-requires
average-requires c =
    let e = c.split.ensures in
    average_ready c.requires c.next_sizes-finer.ensures _ _ _ _ _ e.out_hexes_after e.out_quads_after e.out_segments_after e.out_points_after c.split.new.words c.split.auto.words

pub returns : goal.returns
returns c =
    let e = c.split.ensures in
    round_holds _ _ _ _ _ _ _ c.average.ensures.output e.out_hexes_after e.out_quads_after e.out_segments_after e.out_points_after
