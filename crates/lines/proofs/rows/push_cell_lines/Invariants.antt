-- The lines of the cells met are appended.
use Rattle.std.proofs.Common.{take, length}
use Rattle.rules.specs.Lists.{concat_map, cut}
use Rattle.lines.specs.Appended.{Appended}
use Rattle.lines.specs.Kinds.{corner_count, letter_of}
use Rattle.lines.proofs.Fields.{cell_line}
use Rattle.lines.proofs.rows.push_cell_lines.Given as goal

abbrev pub invariant-loop-cell : goal.invariant-loop-cell
invariant-loop-cell l = Appended l.initial.out l.out (concat_map (cell_line (letter_of l.fn.kind)) (take (length l.yielded) (cut (corner_count l.fn.kind) l.table)))
