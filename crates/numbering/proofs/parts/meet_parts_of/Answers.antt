use Rattle.std.proofs.Common.{◌/◌, ◌<◌, length, arith}
use Rattle.numbering.proofs.Rows.{row_key, length_listed_keys}
use Rattle.numbering.proofs.Passes.{progress_start, progress_turn, progress_full, progress_end}
use Rattle.numbering.proofs.parts.meet_parts_of.Goals as goal

pub loop-part-init : goal.loop-part-init
loop-part-init g c = progress_start _ _ _ c.requires.table

pub returns-in_err-met : goal.returns-in_err-met
returns-in_err-met g c =
    let l = c.loop-part in
    let x = c.args in
    let u : l.part < length x.places.now / g.row.C = omega arith in
    let m = c.in_err-met.ensures in
    rw c.from_residual.ensures
    (progress_full l.invariant (row_key g.row.C l.part x.places.now u x.cell.now) (omega (arith, length_listed_keys g.row.C x.places.now x.cell.now)) m.1)

pub loop-part-preserved : goal.loop-part-preserved
loop-part-preserved g c =
    let l = c.loop-part in
    let x = c.args in
    let u : l.part < length x.places.now / g.row.C = omega arith in
    let m = c.in_ok-met.ensures in
    progress_turn l.invariant m (row_key g.row.C l.part x.places.now u x.cell.now) (omega (arith, length_listed_keys g.row.C x.places.now x.cell.now))

pub returns : goal.returns
returns g c =
    let x = c.args in
    let n = length_listed_keys g.row.C x.places.now x.cell.now in
    progress_end c.loop-part.invariant (omega arith) (omega arith)
