-- What of the first i is in the class is met.
use Rattle.checks.specs.Classes.{walked, in_class}
use Rattle.checks.specs.TaggedKeys.{SameTable}
use Rattle.checks.proofs.Sweeps.{Sweeping}
use Rattle.checks.proofs.classes.Walked.sweep.Given as goal

abbrev pub invariant-loop-i : goal.invariant-loop-i
invariant-loop-i g l = record {
  swept : Sweeping l.self.of (in_class l.class.count l.class.number) (walked l.self.of g.row.C) g.row.C l.table.words.now l.table.room l.table.known l.i;
  same : SameTable l.initial.table l.table;
}
