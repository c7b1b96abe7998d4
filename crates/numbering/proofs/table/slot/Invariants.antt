-- Mixing and adding the rest of the key makes what the whole key makes.
use Rattle.std.proofs.Common.{◌≡◌, ◌^◌, ◌<◌, drop}
use Rattle.numbering.specs.Table.{mix, add}
use Rattle.numbering.proofs.table.slot.Given as goal

abbrev pub invariant-loop-x : goal.invariant-loop-x
invariant-loop-x l = record {
  mixed_fits : l.mixed < 2 ^ 32;
  sum_fits : l.sum < 2 ^ 32;
  mixed_is : mix l.mixed (drop l.x-index l.key) ≡ mix 0 l.key;
  sum_is : add l.sum (drop l.x-index l.key) ≡ add 0 l.key;
}
