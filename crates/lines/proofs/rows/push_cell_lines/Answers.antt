-- Each cell that comes is the next of the table's.
use Rattle.std.proofs.Common.{length, arith}
use Rattle.std.proofs.lemmas.Iterator.Consumers.{YieldsList-turn, YieldsList-end}
use Rattle.std.proofs.lemmas.List.{length_push}
use Rattle.rules.specs.Lists.{cut}
use Rattle.rules.specs.Listing.{cell_lines}
use Rattle.checks.proofs.Library.{YieldsList-from_cut}
use Rattle.lines.proofs.Runs.{print_start, print_room, print_turn, print_end}
use Rattle.lines.proofs.Fields.{cell_line}
use Rattle.lines.specs.Kinds.{corner_count, letter_of}
use Rattle.lines.proofs.Fields.{some_corners}
use Rattle.lines.proofs.Longest.{cell_shown, cells_length, room_for_cells}
use Rattle.lines.proofs.rows.push_cell_lines.Goals as goal

pub loop-cell-init : goal.loop-cell-init
loop-cell-init c = print_start (cell_line (letter_of c.args.kind)) (cut (corner_count c.args.kind) c.args.table.now) _

pub push_line-requires : goal.push_line-requires
unfolding cell_lines
push_line-requires c =
    let a = c.args in
    let t = YieldsList-turn (YieldsList-from_cut (corner_count a.kind) a.table.now (some_corners a.kind) (cc) (cc)) c.loop-cell.yielded _ c.loop-cell.yielded_by _ _ c.in-Some.cell c.in-Some.is c.next.ensures.steps in
    rw (c.letter.ensures, t.1, cell_shown (corner_count a.kind) (length c.loop-cell.yielded) a.table.now c.in-Some.cell.now t.0 (λ i. (c.type_inv.table i).fits)) (print_room (cell_line (letter_of a.kind)) (cut (corner_count a.kind) a.table.now) (length c.loop-cell.yielded) c.loop-cell.invariant t.0 c.in-Some.cell.now (room_for_cells (letter_of a.kind) (corner_count a.kind) a.table.now c.requires (λ i. (c.type_inv.table i).fits)))

pub loop-cell-preserved : goal.loop-cell-preserved
loop-cell-preserved c =
    let a = c.args in
    let t = YieldsList-turn (YieldsList-from_cut (corner_count a.kind) a.table.now (some_corners a.kind) (cc) (cc)) c.loop-cell.yielded _ c.loop-cell.yielded_by _ _ c.in-Some.cell c.in-Some.is c.next.ensures.steps in
    rw (length_push c.loop-cell.yielded c.in-Some.cell)
    (print_turn (cell_line (letter_of a.kind)) (cut (corner_count a.kind) a.table.now) (length c.loop-cell.yielded) c.loop-cell.invariant t.0 c.in-Some.cell.now (rw (c.letter.ensures, t.1, cell_shown (corner_count a.kind) (length c.loop-cell.yielded) a.table.now c.in-Some.cell.now t.0 (λ i. (c.type_inv.table i).fits)) at c.push_line.ensures))

pub returns-clause-lines : goal.returns-clause-lines
unfolding cell_lines
returns-clause-lines c =
    let a = c.args in
    let t = YieldsList-end (YieldsList-from_cut (corner_count a.kind) a.table.now (some_corners a.kind) (cc) (cc)) c.loop-cell.yielded _ c.loop-cell.yielded_by _ _ c.in-None.is c.next.ensures.steps in
    print_end (cell_line (letter_of a.kind)) (cut (corner_count a.kind) a.table.now) (length c.loop-cell.yielded) c.loop-cell.invariant (omega (arith, t.1))

pub returns-clause-short : goal.returns-clause-short
returns-clause-short c = cells_length (letter_of c.args.kind) (corner_count c.args.kind) c.args.table.now (λ i. (c.type_inv.table i).fits)
