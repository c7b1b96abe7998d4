use Rattle.std.proofs.Common.{take, get_or, refl, arith}
use Rattle.std.proofs.lemmas.List.{take_more}
use lib.Seq.{length-take-le}
use Rattle.memory.proofs.Stores.{sets_snoc}
use Rattle.numbering.proofs.table.put.Goals as goal

pub loop-i-preserved : goal.loop-i-preserved
loop-i-preserved c =
    let l = c.loop-i in
    let x = c.args in
    let k = x.key.now in
    rw (take_more k l.i 0 c.loop-i-test.true, sets_snoc x.w.now x.at (take l.i k) (get_or k l.i 0), length-take-le l.i k (omega arith), l.invariant) refl
