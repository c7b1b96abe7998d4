-- The pairs so far agree.
use Rattle.std.proofs.Common.{◌≡◌, ◌+◌, ℕ, ◌<◌, length, get_or}
use Rattle.numbering.proofs.table.is_at.Given as goal

abbrev pub invariant-loop-x : goal.invariant-loop-x
invariant-loop-x l = record {
  can_next : (goal.iterator-loop-x).can_next l.x-iterator;
  is_finite : (goal.iterator-loop-x).is_finite l.x-iterator;
  same : (k : ℕ) → k < length l.yielded → get_or l.w (l.at + k) 0 ≡ get_or l.key k 0;
}
