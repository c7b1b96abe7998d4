use Rattle.std.proofs.Common.{◌/◌, ◌<◌, length, arith}
use Rattle.numbering.proofs.Rows.{row_key, length_listed_keys}
use Rattle.numbering.proofs.Passes.{progress_start, progress_turn, progress_full, progress_end}
use Rattle.numbering.proofs.parts.meet_parts.Goals as goal

pub loop-part-init : goal.loop-part-init
loop-part-init c = progress_start _ _ _ c.requires.table

pub returns-in_err-met : goal.returns-in_err-met
returns-in_err-met c =
    let l = c.loop-part in
    let x = c.args in
    let u : l.part < length x.places.now / (length c.args.key.now) = omega arith in
    let m = rw l.auto.key at c.in_err-met.ensures in
    rw c.from_residual.ensures
    (progress_full l.invariant (row_key (length c.args.key.now) l.part x.places.now u x.cell.now) (omega (arith, length_listed_keys (length c.args.key.now) x.places.now x.cell.now)) m.1)

pub loop-part-preserved : goal.loop-part-preserved
loop-part-preserved c =
    let l = c.loop-part in
    let x = c.args in
    let u : l.part < length x.places.now / (length c.args.key.now) = omega arith in
    let m = rw l.auto.key at c.in_ok-met.ensures in
    progress_turn l.invariant m (row_key (length c.args.key.now) l.part x.places.now u x.cell.now) (omega (arith, length_listed_keys (length c.args.key.now) x.places.now x.cell.now))

pub returns : goal.returns
returns c =
    let x = c.args in
    let n = length_listed_keys (length c.args.key.now) x.places.now x.cell.now in
    progress_end c.loop-part.invariant (omega arith) (omega arith)
