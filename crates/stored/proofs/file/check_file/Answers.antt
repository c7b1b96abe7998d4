-- The header, its width and the body in a row (`FileChecks`).
use Rattle.std.proofs.lemmas.Result.{err_from_is_err_and}
use Rattle.stored.proofs.FileChecks.{counts_refused, width_refused, header_passed, body_refused, file_passed}
use Rattle.stored.proofs.file.check_file.Goals as goal

pub returns-in_err-counts : goal.returns-in_err-counts
returns-in_err-counts c =
    let p = err_from_is_err_and c.from_residual.result c.from_residual.ensures.1 in
    rw (p.1, p.2) (counts_refused c.args.s.now _ c.in_err-counts.ensures)

pub returns-in_err-check_width : goal.returns-in_err-check_width
returns-in_err-check_width c =
    let p = err_from_is_err_and c.from_residual-in_err-check_width.result c.from_residual-in_err-check_width.ensures.1 in
    rw (p.1, p.2) (width_refused c.args.s.now _ c.in_ok-counts.ensures _ c.in_err-check_width.ensures)

pub check_body-requires : goal.check_body-requires
check_body-requires c = header_passed c.args.s.now _ c.in_ok-counts.ensures c.in_ok-check_width.ensures

pub returns-in_err-check_body : goal.returns-in_err-check_body
returns-in_err-check_body c =
    let p = err_from_is_err_and c.from_residual-in_err-check_body.result c.from_residual-in_err-check_body.ensures.1 in
    rw (p.1, p.2) (body_refused c.args.s.now _ c.in_ok-counts.ensures c.in_ok-check_width.ensures _ c.in_err-check_body.ensures)

pub returns : goal.returns
returns c = file_passed c.args.s.now _ c.in_ok-counts.ensures c.in_ok-check_width.ensures c.in_ok-check_body.ensures
