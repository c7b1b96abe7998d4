-- The corners met are counted.
use Rattle.std.proofs.Common.{take}
use Rattle.irregular.specs.Tallied.{Tallied}
use Rattle.irregular.proofs.tallies.Window.tally.Given as goal

abbrev pub invariant-loop-corner : goal.invariant-loop-corner
invariant-loop-corner l = Tallied l.first l.rank l.ranks (take l.corner-index l.table) l.initial.valences l.valences
