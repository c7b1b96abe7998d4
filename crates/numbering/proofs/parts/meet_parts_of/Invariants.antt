-- The keys of the first parts have been met, and their places are stored.
use Rattle.numbering.specs.Parts.{listed_keys}
use Rattle.numbering.proofs.Passes.{Progress}
use Rattle.numbering.proofs.parts.meet_parts_of.Given as goal

abbrev pub invariant-loop-part : goal.invariant-loop-part
invariant-loop-part g l = Progress g.row.C l.fn.w l.w l.room l.n (listed_keys g.row.C l.places l.cell) l.base l.fn.numbers l.numbers l.known l.part
