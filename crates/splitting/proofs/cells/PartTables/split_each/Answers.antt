use Rattle.std.proofs.Common.{◌≡◌, ◌+◌, ◌-◌, ◌*◌, ◌/◌, ◌<◌, ℕ, List, length, ap, ◌∙◌, arith}
use native.Mathlib.Nat.{mul-le-mul_left}
use borrow.Rule.Slice.PartMut.{put_mid}
use Rattle.memory.proofs.Stores.{sets_rest}
use Rattle.numbering.proofs.Passes.{entry_is}
use Rattle.splitting.specs.Kinds.{kind_of, corner_count}
use Rattle.splitting.specs.Cells.{entry_of, child_corners}
use Rattle.splitting.specs.Words.{numbers_at}
use Rattle.splitting.proofs.Tables.{children_length}
use Rattle.splitting.proofs.Walk.{walk_start, walk_room, walk_turn, walk_end}
use Rattle.splitting.proofs.cells.PartTables.split_each.Goals as goal

pub loop-i-init : goal.loop-i-init
loop-i-init c = walk_start _ _ _ _ _ _ _ _ c.requires.room

pub split_cell-requires-clause-room : goal.split_cell-requires-clause-room
split_cell-requires-clause-room c =
    let l = c.loop-i in
    let x = c.args in
    let k = corner_count x.given.kind in
    let u : l.i < length x.cells.now / k = rw c.corner_count-corners.ensures at c.loop-i-test.true in
    rw (c.corner_count-corners.ensures, entry_is k l.i x.cells.now u) (walk_room l.invariant u c.requires.room)

pub loop-i-preserved : goal.loop-i-preserved
loop-i-preserved c =
    let l = c.loop-i in
    let x = c.args in
    let kind = x.given.kind in
    let k = corner_count kind in
    let u : l.i < length x.cells.now / k = rw c.corner_count-corners.ensures at c.loop-i-test.true in
    let d = c.split_cell.ensures in
    let cell = entry_is k l.i x.cells.now u in
    let met = rw (c.corner_count-corners.ensures, cell) at d.both_met in
    let stored = rw (c.corner_count-corners.ensures, cell) at d.cell_split in
    let a = k * (k * l.i) in
    let h = mul-le-mul_left k (mul-le-mul_left k u) in
    rw c.corner_count-corners.ensures
    (walk_turn l.invariant u d.same_tables met
    (λ es fs.
    let ns = numbers_at x.given.base l.self kind (entry_of kind x.cells.now l.i) (x.own + l.i) es fs in
    ap (λ (v : List ℕ). put_mid a (length l.out - a) l.out v) (stored es fs)
    ∙ sets_rest a l.out (child_corners (kind_of kind) ns) (omega (arith, h, children_length kind ns, c.requires.children_in_bounds, l.auto.out))))

pub returns : goal.returns
returns c =
    let l = c.loop-i in
    let u = rw c.corner_count-corners.ensures at c.loop-i-test.false in
    let v = rw c.corner_count-corners.ensures at c.loop-i.auto.i-end in
    let e : l.i ≡ length c.args.cells.now / corner_count c.args.given.kind = omega (arith, u, v) in
    let w = walk_end l.invariant e c.requires.children_in_bounds in
    record { same_tables = l.invariant.same_tables; both_met = w.0; table_split = w.1 }
