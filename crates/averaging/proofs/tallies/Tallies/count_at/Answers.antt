-- A cell counts for a vertex, or does not, as the rules have it.
use Rattle.std.proofs.Common.{ℕ, ◌+◌, ◌<◌, ◌^◌, List, length, get_or, [], lit<, arith, rules}
use Rattle.averaging.proofs.Stores.{counts, counts_not, sum_fits}
use Rattle.averaging.specs.declared.tallies.Tallies.{Tallies}
use Rattle.averaging.specs.Tally.{Spare}
use Rattle.averaging.proofs.tallies.Tallies.count_at.Goals as goal

-- on each axis the sum with the cell's own added fits
sums_fit : (t : Tallies) (v : ℕ) (sums : List ℕ) → (v < length t.ranks.now) × Spare 1 t → ((a : ℕ) → a < 3 → get_or sums a 0 < 2 ^ 41)
    → (a : ℕ) → a < 3 → get_or (get_or t.totals.now v []) a 0 + get_or sums a 0 < 2 ^ 64
sums_fit t v sums room below a h = sum_fits t v a (get_or sums a 0) (room.1.room a v h room.0) (below a h)

pub overflow_add-self-then-counts : goal.overflow_add-self-then-counts
overflow_add-self-then-counts c =
    let a = c.args in
    omega (arith, sums_fit a.self.now a.vertex a.sums c.requires.room c.requires.sums_below 0 (lit< tt))

pub overflow_add-self-then-counts-2 : goal.overflow_add-self-then-counts-2
overflow_add-self-then-counts-2 c =
    let a = c.args in
    omega (arith, sums_fit a.self.now a.vertex a.sums c.requires.room c.requires.sums_below 1 (lit< tt))

pub overflow_add-self-then-counts-3 : goal.overflow_add-self-then-counts-3
overflow_add-self-then-counts-3 c =
    let a = c.args in
    omega (arith, sums_fit a.self.now a.vertex a.sums c.requires.room c.requires.sums_below 2 (lit< tt))

pub returns-then-counts : goal.returns-then-counts
returns-then-counts c =
    let a = c.args in
    counts a.self.now a.vertex a.d a.sums c.requires.sums_below _ (search rules) (search rules) c.requires.room.0 c.requires.room.1.same c.if-counts.true

pub returns-else-counts : goal.returns-else-counts
returns-else-counts c = let a = c.args in counts_not a.self.now a.vertex a.d a.sums c.requires.sums_below c.if-counts.false
