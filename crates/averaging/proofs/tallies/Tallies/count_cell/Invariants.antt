-- The children passed have counted.
use Rattle.std.proofs.Common.{ℕ, ◌*◌, length, get_or, []}
use Rattle.averaging.specs.Tally.{repeat, Tallied}
use Rattle.averaging.specs.Pass.{gathered_at, weighed, child_step}
use Rattle.averaging.proofs.tallies.Tallies.count_cell.Given as goal

abbrev pub invariant-loop-row : goal.invariant-loop-row
invariant-loop-row g l = record {
  can_next : (goal.iterator-loop-row g).can_next l.row-iterator;
  is_finite : (goal.iterator-loop-row g).is_finite l.row-iterator;
  counted : Tallied (g.row.N * length l.yielded) (λ (a : ℕ). repeat (length l.yielded) (λ (i : ℕ). child_step g.row.N l.d (weighed g.row.N (get_or l.weights i []) (gathered_at l.gathered.corners a)) (get_or l.children i []))) l.initial.self l.self;
}
