use Rattle.std.proofs.Common.{◌≡◌, ◌+◌, ◌*◌, ◌/◌, ◌%◌, ◌^◌, ◌<◌, ◌∷◌, ℕ, length, get_or, drop, arith, add-one, drop-cons}
use mathlib.Core.Path.{ap₂}
use native.Mathlib.Nat.{mod-lt}
use lib.ListN.{drop_of_length-le}
use Rattle.numbering.specs.Table.{mix, add, slot_of}
use Rattle.numbering.proofs.table.slot.Goals as goal

pub loop-x-preserved : goal.loop-x-preserved
unfolding mix add
loop-x-preserved c =
    let l = c.loop-x in
    let k = c.args.key.now in
    let u : l.x-index < length k = omega arith in
    let e : drop l.x-index k ≡ get_or k l.x-index 0 ∷ drop (l.x-index + 1) k = rw (add-one l.x-index) (drop-cons k l.x-index 0 u) in
    record {
      mixed_fits = mod-lt _ (omega arith);
      sum_fits = mod-lt _ (omega arith);
      mixed_is = rw e at l.invariant.mixed_is;
      sum_is = rw e at l.invariant.sum_is;
    }

pub returns : goal.returns
unfolding mix add slot_of
returns c =
    let l = c.loop-x in
    let e = drop_of_length-le c.args.key.now {i = l.x-index} (omega arith) in
    ap₂ (λ (s h : ℕ). (4 * s + h / 2 ^ 16) % (c.args.room + 1)) (rw e at l.invariant.sum_is) (rw e at l.invariant.mixed_is)
