-- The first i cells have been split.
use Rattle.splitting.proofs.Walk.{Walked}
use Rattle.splitting.proofs.cells.PartTables.split_each.Given as goal

abbrev pub invariant-loop-i : goal.invariant-loop-i
invariant-loop-i l =
    Walked l.given.base l.fn.self l.self l.given.kind l.cells l.own l.fn.out l.out l.i
