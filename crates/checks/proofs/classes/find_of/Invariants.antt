use Rattle.std.proofs.Common.{◌-◌, ◌<◌}
use Rattle.checks.proofs.classes.find_of.Given as goal

abbrev pub invariant-loop-classes : goal.invariant-loop-classes
invariant-loop-classes g l = 0 < l.classes

abbrev pub decreases-loop-classes : goal.decreases-loop-classes
decreases-loop-classes g l = 2048 - l.classes
