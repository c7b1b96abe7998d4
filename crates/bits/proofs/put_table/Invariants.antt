-- The entries passed are in the buffer or wait.
use Rattle.std.proofs.Common.{map}
use Rattle.bits.proofs.Waiting.{Putting}
use Rattle.bits.proofs.put_table.Given as goal

abbrev pub invariant-loop-x : goal.invariant-loop-x
invariant-loop-x g l = Putting l.initial.d l.at l.w (map g.T.Entry.field l.t) l.d l.p l.x-index
