use Rattle.std.proofs.Common.{arith}
use Rattle.std.proofs.lemmas.List.{length-set}
use Rattle.numbering.proofs.Entries.{met_entered, slot_below}
use Rattle.numbering.proofs.table.enter.Goals as goal

pub returns : goal.returns
returns c =
    let x = c.args in
    let r = c.requires in
    rw c.put.ensures (met_entered x.w.now x.room x.n x.key.now r.table r.n_lt_room r.n_bound _ _ _ _ c.place-at.ensures r.s_value (omega arith) (omega arith))

pub bounds-w-s-2 : goal.bounds-w-s-2
bounds-w-s-2 c =
    omega (arith, simp length-set at c.put.auto.w, c.requires.table.fits, slot_below c.args.room c.args.key.now)
