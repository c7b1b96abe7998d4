-- The first i numbers have been read.
use Rattle.std.proofs.Common.{◌≡◌, take}
use Rattle.rules.specs.Split.{corners_at}
use Rattle.numbering.proofs.parts.load.Given as goal

abbrev pub invariant-loop-i : goal.invariant-loop-i
invariant-loop-i l = take l.i l.to ≡ corners_at l.from (take l.i l.places)
