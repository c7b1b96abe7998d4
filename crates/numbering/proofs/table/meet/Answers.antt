use Rattle.std.proofs.Common.{refl, length, arith}
use Rattle.numbering.proofs.Entries.{met_known, grows, length_keys}
use Rattle.numbering.proofs.table.meet.Goals as goal

pub returns-in-Some : goal.returns-in-Some
returns-in-Some c =
    let x = c.args in
    let h = c.in-Some.ensures in
    met_known (length x.key.now) x.w.now x.room x.n x.key.now c.requires _ h.0 (omega (arith, h.1, length_keys (length x.key.now) x.w.now x.room x.n))

pub returns-then-room-n : goal.returns-then-room-n
returns-then-room-n c =
    let x = c.args in
    let k = length x.key.now in
    let h = c.in_default.ensures in
    (refl, rw (grows k x.w.now x.room x.n x.key.now (omega (arith, h, length_keys k x.w.now x.room x.n))) (omega arith))
