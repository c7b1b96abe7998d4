-- The keys of the parts of the first cells have been met; the others are left.
use Rattle.std.proofs.Common.{◌≡◌, ◌*◌, length, take, drop}
use Rattle.std.specs.Slice.Iter.{chunks_exact_rest, chunks_exact_size}
use Rattle.rules.specs.Lists.{concat_map, cut}
use Rattle.numbering.specs.Table.{MetAll}
use Rattle.numbering.specs.Parts.{listed_keys}
use Rattle.numbering.proofs.parts.meet_cells.Given as goal

abbrev pub invariant-loop-cell : goal.invariant-loop-cell
invariant-loop-cell g l = record {
  size_is : chunks_exact_size l.cell-iterator ≡ l.corners;
  left : chunks_exact_rest l.cell-iterator ≡ drop (l.corners * length l.yielded) l.cells;
  met : MetAll g.row.C l.fn.w l.w l.room l.n (concat_map (listed_keys g.row.C l.places) (take (length l.yielded) (cut l.corners l.cells))) l.known;
}
