-- The children so far have counted, so that there is room for one more.
use Rattle.std.proofs.Common.{◌≡◌, ℕ, ◌+◌, ◌*◌, ◌≤◌, ◌<◌, length, length-append, get_or, [], List, arith, ap, ap₂, ◌∙◌}
use Rattle.std.proofs.Math.Nat.{mul-le-mul_left}
use Rattle.std.proofs.lemmas.Slice.Zip.{zip_turn, zip_end}
use Rattle.averaging.specs.Tally.{Tally}
use Rattle.averaging.specs.Pass.{gathered_at, weighed, child_step, cell_step}
use Rattle.averaging.proofs.Steps.{tallied_start, tallied_again, tallied_by, tallied_end, spare_after}
use Rattle.averaging.proofs.tallies.Tallies.count_cell.Given.{Over}
use Rattle.averaging.proofs.tallies.Tallies.count_cell.Goals as goal
use Rattle.averaging.proofs.tallies.Tallies.count_cell.Goals.{In-Some}

-- the row of weights and the child of this turn
turn : (g : Over) (c : In-Some g) → (length c.loop-row.yielded < g.row.N) × (c.in-Some.row.now ≡ get_or c.args.weights.now (length c.loop-row.yielded) []) × (c.in-Some.child.now ≡ get_or c.args.children.now (length c.loop-row.yielded) [])
turn g c =
    let t = zip_turn c.args.weights.now c.args.children.now c.loop-row.yielded _ _ c.next.new.self _ (cc) (cc) c.loop-row.yielded_by _ c.in-Some.is c.next.ensures.steps in
    (omega (arith, t.0, c.told-weights), t.2 [], t.3 [])

part : (n i : ℕ) → i < n → n * i + n ≤ n * n
part n i h = omega (arith, mul-le-mul_left n h)

-- child number i
abbrev step : ℕ → ℕ → List (List ℕ) → List (List ℕ) → List (List ℕ) → ℕ → ℕ → ℕ → Tally → Tally
step n d weights gathered children a i = child_step n d (weighed n (get_or weights i []) (gathered_at gathered a)) (get_or children i [])

pub loop-row-init : goal.loop-row-init
loop-row-init g c = record { can_next = (tt, tt); is_finite = tt; counted = tallied_start _ _ c.args.self.now }

pub count_child-requires : goal.count_child-requires
count_child-requires g c =
    let l = c.loop-row in
    let t = turn g (goal.at.count_child-requires g c).In-Some in
    (omega (arith, c.args.gathered.now.few), ((rw (t.2, l.invariant.counted.ranks_kept) (c.requires.0 (length l.yielded) t.0), spare_after (g.row.N * length l.yielded) (part g.row.N (length l.yielded) t.0) l.invariant.counted c.requires.1), λ a h. (c.child_sums-sums.ensures a h).1))

pub loop-row-preserved : goal.loop-row-preserved
loop-row-preserved g c =
    let a = c.args in
    let t = turn g (goal.at.loop-row-preserved g c).In-Some in
    let i = length c.loop-row.yielded in
    let s = step g.row.N a.d a.weights.now a.gathered.now.corners a.children.now in
    let same = λ (x f : ℕ) (h : x < 3) (t' : Tally). ap₂ (λ (z : ℕ) (child : List ℕ). child_step g.row.N a.d z child f t') ((c.child_sums-sums.ensures x h).0 ∙ ap (λ (row : List ℕ). weighed g.row.N row (gathered_at a.gathered.now.corners x)) t.1) t.2 in
    record { can_next = (tt, tt); is_finite = tt; counted = rw length-append (tallied_again s i (omega arith) c.loop-row.invariant.counted (tallied_by (λ (x : ℕ). s x i) same c.count_child.ensures)) }

pub returns : goal.returns
unfolding cell_step
returns g c =
    let a = c.args in
    let e = zip_end a.weights.now a.children.now c.loop-row.yielded _ _ c.next.new.self _ (cc) (cc) c.loop-row.yielded_by c.in-None.is c.next.ensures.steps in
    tallied_end (λ (i : ℕ). g.row.N * i) (step g.row.N a.d a.weights.now a.gathered.now.corners a.children.now) (omega (arith, e, c.told-weights, c.told-children)) c.loop-row.invariant.counted
