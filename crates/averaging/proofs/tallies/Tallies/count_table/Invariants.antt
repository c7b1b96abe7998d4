-- The cells passed have counted.
use Rattle.std.proofs.Common.{ℕ, ◌*◌, length, get_or, []}
use Rattle.rules.specs.Lists.{cut}
use Rattle.averaging.specs.Tally.{repeat, Tallied}
use Rattle.averaging.specs.Pass.{corner_coordinate, cell_step}
use Rattle.averaging.proofs.tallies.Tallies.count_table.Given as goal

abbrev pub invariant-loop-cell : goal.invariant-loop-cell
invariant-loop-cell g l = record {
  can_next : (goal.iterator-loop-cell g).can_next l.cell-iterator;
  is_finite : (goal.iterator-loop-cell g).is_finite l.cell-iterator;
  counted : Tallied (g.row.N * g.row.N * length l.yielded) (λ (a : ℕ). repeat (length l.yielded) (λ (c : ℕ). cell_step g.row.N l.d l.weights (corner_coordinate l.vertices (get_or (cut g.row.N l.corners) c []) a) (get_or (cut g.row.N (cut g.row.N l.fine)) c []))) l.initial.self l.self;
}
