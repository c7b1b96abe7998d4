-- What is lent of the array are the places of the parts.
use Rattle.std.proofs.Common.{◌≡◌, length, sym, ap, ◌∙◌, arith}
use Rattle.rules.specs.Lists.{concat_map, cut}
use Rattle.numbering.specs.Parts.{cell_corners, table_keys, places_listed, listed_keys}
use Rattle.numbering.proofs.Places.{few_parts, list_size, list_lent, count_listed, listed_within, table_listed}
use Rattle.numbering.proofs.parts.meet_table_of.Goals as goal

pub slice_bounds-meet_cells-end : goal.slice_bounds-meet_cells-end
slice_bounds-meet_cells-end g c =
    let p = c.args.parts in
    list_size p _ _ c.requires.corners c.count-end.ensures
    ∙ sym (ap length (list_lent p _ _ _ c.requires.corners c.count-end.ensures c.listed-places.ensures.front))

pub meet_cells-requires-clause-few_parts : goal.meet_cells-requires-clause-few_parts
meet_cells-requires-clause-few_parts g c =
    let p = c.args.parts in
    rw (list_lent p _ _ _ c.requires.corners c.count-end.ensures c.listed-places.ensures.front, c.requires.corners) (omega (arith, count_listed p, few_parts p))

pub meet_cells-requires-clause-within : goal.meet_cells-requires-clause-within
meet_cells-requires-clause-within g c =
    let p = c.args.parts in
    rw (list_lent p _ _ _ c.requires.corners c.count-end.ensures c.listed-places.ensures.front, c.cell_corners.ensures) (listed_within p)

pub returns : goal.returns
returns g c =
    let p = c.args.parts in
    let keys : concat_map (listed_keys g.row.C (places_listed p)) (cut (cell_corners p) c.args.cells.now) ≡ table_keys p c.args.cells.now =
    rw c.requires.corners (table_listed p c.args.cells.now) in
    rw (list_lent p _ _ _ c.requires.corners c.count-end.ensures c.listed-places.ensures.front, c.cell_corners.ensures, keys) at c.meet_cells.ensures
