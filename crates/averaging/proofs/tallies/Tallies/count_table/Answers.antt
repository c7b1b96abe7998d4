-- The cells so far have counted, so that there is room for one more.
use Rattle.std.proofs.Common.{◌≡◌, ℕ, ◌+◌, ◌*◌, ◌≤◌, ◌<◌, length, length-append, get_or, [], List, ℤ, arith, ap₂, ◌∙◌}
use Rattle.std.proofs.Math.Nat.{mul-le-mul_left}
use Rattle.std.proofs.lemmas.Slice.Zip.{zip_turn, zip_end}
use Rattle.rules.specs.Lists.{cut}
use Rattle.lists.proofs.Tables.{length_cut}
use Rattle.averaging.specs.Tally.{Tally}
use Rattle.averaging.specs.Pass.{gathered_at, corner_coordinate, cell_step, table_step, cell_count}
use Rattle.averaging.proofs.Steps.{tallied_start, tallied_again, tallied_by, tallied_end, cell_same, spare_after}
use Rattle.averaging.proofs.tallies.Tallies.count_table.Given.{Over}
use Rattle.averaging.proofs.tallies.Tallies.count_table.Goals as goal
use Rattle.averaging.proofs.tallies.Tallies.count_table.Goals.{In-Some}

-- the cell and the children of this turn
turn : (g : Over) (c : In-Some g) → (length c.loop-cell.yielded < length (cut g.row.N c.args.corners.now)) × (c.in-Some.cell.now ≡ get_or (cut g.row.N c.args.corners.now) (length c.loop-cell.yielded) []) × (c.in-Some.family.now ≡ get_or (cut g.row.N (cut g.row.N c.args.fine.now)) (length c.loop-cell.yielded) [])
turn g c =
    let t = zip_turn (cut g.row.N c.args.corners.now) (cut g.row.N (cut g.row.N c.args.fine.now)) c.loop-cell.yielded _ _ c.next.new.self _ (cc) (cc) c.loop-cell.yielded_by _ c.in-Some.is c.next.ensures.steps in
    (t.0, t.2 [], t.3 [])

square : (n : ℕ) → n ≤ 8 → n * n ≤ 64
square n h = omega (arith, mul-le-mul_left n h)

part : (n k c : ℕ) → c < k → n * n * c + n * n ≤ n * n * k
part n k c h = omega (arith, mul-le-mul_left (n * n) h)

-- cell number c
abbrev step : ℕ → ℕ → List (List ℕ) → List (List ℤ) → List (List ℕ) → List (List (List ℕ)) → ℕ → ℕ → ℕ → Tally → Tally
step n d weights vertices cells families a c = cell_step n d weights (corner_coordinate vertices (get_or cells c []) a) (get_or families c [])

pub loop-cell-init : goal.loop-cell-init
loop-cell-init g c = record { can_next = (tt, tt); is_finite = tt; counted = tallied_start _ _ c.args.self.now }

pub of-gathered-requires : goal.of-gathered-requires
of-gathered-requires g c =
    let t = turn g (goal.at.of-gathered-requires g c).In-Some in
    (omega (arith, c.requires.few), (omega (arith, c.requires.few), (c.requires.few.1, (rw t.1 (c.requires.cells.old _ t.0), c.requires.near))))

pub count_cell-requires : goal.count_cell-requires
count_cell-requires g c =
    let n = g.row.N in
    let l = c.loop-cell in
    let t = turn g (goal.at.count_cell-requires g c).In-Some in
    let few : n * n ≤ 64 = square n c.requires.few.1 in
    let after : length l.yielded < cell_count n c.args.corners.now = rw (← length_cut n c.args.corners.now) t.0 in
    let room = spare_after (n * n * length l.yielded) (part n (cell_count n c.args.corners.now) (length l.yielded) after) l.invariant.counted c.requires.room in
    (omega arith, (omega arith, (omega arith, (omega arith, (omega arith, ((λ i h. rw (t.2, l.invariant.counted.ranks_kept) (c.requires.cells.new (length l.yielded) i t.0 h)), room))))))

pub loop-cell-preserved : goal.loop-cell-preserved
loop-cell-preserved g c =
    let a = c.args in
    let t = turn g (goal.at.loop-cell-preserved g c).In-Some in
    let i = length c.loop-cell.yielded in
    let s = step g.row.N a.d a.weights.now a.vertices.now (cut g.row.N a.corners.now) (cut g.row.N (cut g.row.N a.fine.now)) in
    let same = λ (x f : ℕ) (h : x < 3) (t' : Tally).
    cell_same g.row.N a.d a.weights.now (gathered_at c.of-gathered.result.corners x) (corner_coordinate a.vertices.now c.in-Some.cell.now x) c.in-Some.family.now f (λ u k. c.of-gathered.ensures u x k h) t'
    ∙ ap₂ (λ (cell : List ℕ) (family : List (List ℕ)). cell_step g.row.N a.d a.weights.now (corner_coordinate a.vertices.now cell x) family f t') t.1 t.2 in
    record { can_next = (tt, tt); is_finite = tt; counted = rw length-append (tallied_again s i (omega arith) c.loop-cell.invariant.counted (tallied_by (λ (x : ℕ). s x i) same c.count_cell.ensures)) }

pub returns : goal.returns
unfolding table_step
returns g c =
    let a = c.args in
    let e = zip_end (cut g.row.N a.corners.now) (cut g.row.N (cut g.row.N a.fine.now)) c.loop-cell.yielded _ _ c.next.new.self _ (cc) (cc) c.loop-cell.yielded_by c.in-None.is c.next.ensures.steps in
    let n : length c.loop-cell.yielded ≡ length (cut g.row.N a.corners.now) = omega (arith, e, c.requires.cells.all) in
    rw (← length_cut g.row.N a.corners.now) (tallied_end (λ (i : ℕ). g.row.N * g.row.N * i) (step g.row.N a.d a.weights.now a.vertices.now (cut g.row.N a.corners.now) (cut g.row.N (cut g.row.N a.fine.now))) n c.loop-cell.invariant.counted)
