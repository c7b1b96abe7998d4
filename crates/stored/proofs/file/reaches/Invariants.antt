-- p is the bit behind the corners passed, all of which are below n.
use Rattle.std.proofs.Common.{◌≡◌, ◌+◌, ◌*◌, false, leb}
use Rattle.rules.specs.Lists.{any}
use Rattle.rules.specs.Bits.{table_at}
use Rattle.stored.proofs.file.reaches.Given as goal

abbrev pub invariant-loop-i : goal.invariant-loop-i
invariant-loop-i l = record {
  at : l.p ≡ l.at.hexes + l.at.width * l.i;
  below : any (leb l.n) (table_at l.s l.at.hexes l.at.width l.i) ≡ false;
}
