-- The keys of the first parts have been met, and their places are stored.
use Rattle.std.proofs.Common.{length}
use Rattle.numbering.specs.Parts.{listed_keys}
use Rattle.numbering.proofs.Passes.{Progress}
use Rattle.numbering.proofs.parts.meet_parts.Given as goal

abbrev pub invariant-loop-part : goal.invariant-loop-part
invariant-loop-part l = Progress (length l.fn.key) l.fn.w l.w l.room l.n (listed_keys (length l.fn.key) l.places l.cell) l.base l.fn.numbers l.numbers l.known l.part
