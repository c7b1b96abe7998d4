use Rattle.std.proofs.Common.{arith}
use Rattle.numbering.proofs.Places.{length_table_keys, few_keys}
use Rattle.numbering.proofs.parts.Parts.count_all.Goals as goal

pub overflow_mul-result : goal.overflow_mul-result
overflow_mul-result c =
    let x = c.args in
    rw (c.count.ensures, c.cell_corners.ensures) (omega (arith, length_table_keys x.self x.cells.now, few_keys x.self x.cells.now))
