-- The first entries are those of the fields passed, and p is the bit behind these.
use Rattle.std.proofs.Common.{◌≡◌, ◌+◌, ◌*◌, map, take}
use Rattle.rules.specs.Bits.{table_at}
use Rattle.bits.proofs.get_table.Given as goal

abbrev pub invariant-loop-x : goal.invariant-loop-x
invariant-loop-x g l = record {
  at : l.p ≡ l.at + l.w * l.x-index;
  front : take l.x-index l.front ≡ map g.T.Entry.entry (table_at l.s l.at l.w l.x-index);
}
