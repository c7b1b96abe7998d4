-- No entry from the link on has the key. Links go to older entries, so the walk ends.
use Rattle.std.proofs.Common.{length}
use Rattle.numbering.proofs.Entries.{Walk}
use Rattle.numbering.proofs.table.find.Given as goal

abbrev pub invariant-loop-link : goal.invariant-loop-link
invariant-loop-link l = Walk (length l.key) l.w l.room l.n l.key l.link

abbrev pub decreases-loop-link : goal.decreases-loop-link
decreases-loop-link l = l.link
