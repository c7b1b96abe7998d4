use Rattle.std.proofs.Common.{◌≡◌, length, sym, ap, ◌∙◌, arith}
use lib.Seq.{length-take-le}
use Rattle.rules.specs.Lists.{overwritten}
use Rattle.rules.specs.Split.{corners_at}
use Rattle.splitting.specs.Kinds.{kind_of}
use Rattle.splitting.specs.Cells.{child_corners}
use Rattle.splitting.specs.Words.{numbers_at}
use Rattle.splitting.proofs.KindParts.{numbers_all}
use Rattle.splitting.proofs.Tables.{few_numbers, length_smallest, smallest_within, children_listed, children_length, front_picked}
use Rattle.splitting.proofs.cells.PartTables.split_cell.Goals as goal

pub slice_bounds-load-end-3 : goal.slice_bounds-load-end-3
slice_bounds-load-end-3 c =
    sym (length-take-le _ c.args.out.now (omega (arith, ap length c.args.given.smallest_are, length_smallest c.args.given.kind)))

pub load-requires-clause-to_len : goal.load-requires-clause-to_len
load-requires-clause-to_len c =
    length-take-le _ c.args.out.now (omega (arith, ap length c.args.given.smallest_are, length_smallest c.args.given.kind))

pub load-requires-clause-within : goal.load-requires-clause-within
load-requires-clause-within c =
    let k = c.args.given.kind in
    let long = c.number_cell.auto.numbers in
    rw c.args.given.smallest_are (λ i l. omega (arith, smallest_within k i l, few_numbers k))

pub returns-clause-cell_split : goal.returns-clause-cell_split
unfolding overwritten
returns-clause-cell_split c es fs =
    let x = c.args in
    let k = x.given.kind in
    let m = c.number_cell in
    let stored = m.new.numbers in
    let ns = numbers_at x.given.base x.self.now k x.cell.now x.own es fs in
    let children : c.load.new.to ≡ child_corners (kind_of k) ns =
    c.load.ensures
    ∙ ap (corners_at stored) c.args.given.smallest_are
    ∙ children_listed k stored
    ∙ ap (child_corners (kind_of k)) (m.ensures.cell_numbered es fs)
    ∙ front_picked k _ ns (numbers_all k _ _ _ _ x.own x.cell.now c.requires.cell_len) in
    let long : length x.given.smallest.now ≡ length (child_corners (kind_of k) ns) =
    ap length c.args.given.smallest_are ∙ length_smallest k ∙ sym (children_length k ns) in
    rw (long, children)
