-- After some rounds the output tables begin with the mesh after as many.
use Rattle.tables.specs.Lent.{mesh_at, SameSlices}
use Rattle.rounds.specs.Front.{sized_front}
use Rattle.rounds.specs.Working.{SameNumbers}
use Rattle.rounds.proofs.Turns.{Turning}
use Rattle.rounds.proofs.turn.turns.Given as goal

abbrev pub invariant-loop : goal.invariant-loop
invariant-loop l = record {
  same_output : SameSlices l.fn.output l.output;
  same_working : SameSlices l.fn.working l.working;
  same_numbers : SameNumbers l.fn.numbers l.numbers;
  turning : Turning l.fn.rounds l.counter (sized_front l.fn.start (mesh_at l.fn.output)) l.sizes (mesh_at l.fn.output) (mesh_at l.output) (mesh_at l.fn.working) (mesh_at l.working) l.fn.numbers l.numbers;
}
