-- A round more, and the sizes that it leads to.
use Rattle.std.proofs.Common.{add-one}
use Rattle.rounds.proofs.Turns.{turning_starts, turning_ready, turning_bounded, turning_next}
use Rattle.rounds.proofs.Lent.{same_lent, still_lent, lengths_kept, same_numbers, numbers_still_lent, counts_kept}
use Rattle.rounds.proofs.turn.turns.Goals as goal

pub loop-init : goal.loop-init
loop-init c = record { same_output = same_lent _; same_working = same_lent _; same_numbers = same_numbers _; turning = turning_starts c.requires }

pub turn-requires-clause-room : goal.turn-requires-clause-room
turn-requires-clause-room c = (turning_ready c.requires c.loop.invariant.turning c.loop-test.true).0

pub turn-requires-clause-ready : goal.turn-requires-clause-ready
turn-requires-clause-ready c = (turning_ready c.requires c.loop.invariant.turning c.loop-test.true).1

pub next_sizes-sizes-requires : goal.next_sizes-sizes-requires
next_sizes-sizes-requires c = turning_bounded c.requires c.loop.invariant.turning c.loop-test.true

pub loop-preserved : goal.loop-preserved
loop-preserved c =
    let i = c.loop.invariant in
    rw (add-one c.loop.counter)
    (record {
      same_output = still_lent i.same_output c.turn.ensures.same_output;
      same_working = still_lent i.same_working c.turn.ensures.same_working;
      same_numbers = numbers_still_lent i.same_numbers c.turn.ensures.same_numbers;
      turning =
          turning_next c.requires i.turning c.loop-test.true c.next_sizes-sizes.ensures c.turn.ensures.refined
          (lengths_kept c.turn.ensures.same_output) (lengths_kept c.turn.ensures.same_working) (counts_kept c.turn.ensures.same_numbers);
    })
