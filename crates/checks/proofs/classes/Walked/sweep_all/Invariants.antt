-- What the classes before hold.
use Rattle.checks.specs.Classes.{walked}
use Rattle.checks.proofs.Sweeps.{Totalling}
use Rattle.checks.proofs.classes.Walked.sweep_all.Given as goal

abbrev pub invariant-loop-number : goal.invariant-loop-number
invariant-loop-number g l = Totalling l.self.of l.classes (walked l.self.of g.row.C) l.n l.number
