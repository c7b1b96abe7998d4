-- The passes leave the tallies of the counted cells, and their means are the coordinates after the round.
-- Each need goes back from call to call.
use Rattle.std.proofs.Common.{◌≡◌, ℕ, ◌+◌, ◌*◌, ◌/◌, ◌<◌, ◌≤◌, List, length, get_or, take, pos, ℤ, sym, subst, ap, ◌∙◌, arith, lit<}
use Rattle.std.proofs.Math.Nat.{mul-div_cancel_left}
use Rattle.std.proofs.Math.Seq.{length-take-le}
use Rattle.rules.specs.Mesh.{hex, quad, segment, point}
use Rattle.averaging.specs.Tally.{Tally, Spare}
use Rattle.averaging.specs.Pass.{Complete, MeanOf}
use Rattle.averaging.proofs.Steps.{spare_after}
use Rattle.averaging.proofs.Tables.{Cleared, start, takes, load, light_all, by_kind}
use Rattle.averaging.proofs.Round.{counted_tally, complete, written, overwrites}
use Rattle.averaging.proofs.Rows.{hex_weights, quad_weights, segment_weights, point_weights}
use Rattle.averaging.proofs.average.Goals as goal
use Rattle.averaging.proofs.average.Goals.{After-reset}

-- a part of k * count numbers has count chunks of k
chunks : (k count n : ℕ) (xs : List ℕ) → 0 < k → k * count ≤ length xs → n ≡ length (take (k * count) xs) / k → n ≡ count
chunks k count n xs h l e = e ∙ ap (λ (m : ℕ). m / k) (length-take-le (k * count) xs l) ∙ mul-div_cancel_left count h

module _ (c : After-reset) where
  ranks_long : length c.as_chunks_mut-ranks.result.0.now ≡ c.args.count
  ranks_long = chunks 2 c.args.count _ c.args.words.now (lit< tt) c.requires.words_fit c.as_chunks_mut-ranks.ensures.front_len

  totals_long : length c.as_chunks_mut-totals.result.0.now ≡ c.args.count
  totals_long = chunks 3 c.args.count _ c.args.longs.now (lit< tt) c.requires.longs_fit c.as_chunks_mut-totals.ensures.front_len

  cleared : Cleared c.args.count c.reset.new.self
  cleared = λ a f h l. c.reset.ensures.cleared a f h (omega (arith, l, ranks_long))

  room : Spare (load c.requires point + (load c.requires segment + (load c.requires quad + load c.requires hex))) c.reset.new.self
  room = start _ c.args.count c.reset.new.self (light_all c.requires) (omega (arith, ranks_long)) (omega (arith, totals_long)) cleared

pub count_table-requires : goal.count_table-requires
count_table-requires c =
    let r = c.requires in
    let b = (goal.at.count_table-requires c).After-reset in
    (omega arith, (omega arith, takes r point (load r point + (load r segment + (load r quad + load r hex))) (omega arith) c.entries-vertices.ensures (omega (arith, ranks_long b)) (room b)))

pub count_table-requires-2 : goal.count_table-requires-2
count_table-requires-2 c =
    let r = c.requires in
    let b = (goal.at.count_table-requires-2 c).After-reset in
    let s₀ : Spare (load r point + (load r segment + (load r quad + load r hex))) c.reset.new.self = room b in
    let s₁ = spare_after (load r point) {m = load r segment + (load r quad + load r hex)} (omega arith) c.count_table.ensures s₀ in
    (omega arith, (omega arith, takes r segment (load r segment + (load r quad + load r hex)) (omega arith) c.entries-vertices.ensures (omega (arith, ranks_long b)) s₁))

pub count_table-requires-3 : goal.count_table-requires-3
count_table-requires-3 c =
    let r = c.requires in
    let b = (goal.at.count_table-requires-3 c).After-reset in
    let s₀ : Spare (load r point + (load r segment + (load r quad + load r hex))) c.reset.new.self = room b in
    let s₁ = spare_after (load r point) {m = load r segment + (load r quad + load r hex)} (omega arith) c.count_table.ensures s₀ in
    let s₂ = spare_after (load r segment) {m = load r quad + load r hex} (omega arith) c.count_table-2.ensures s₁ in
    (omega arith, (omega arith, takes r quad (load r quad + load r hex) (omega arith) c.entries-vertices.ensures (omega (arith, ranks_long b)) s₂))

pub count_table-requires-4 : goal.count_table-requires-4
count_table-requires-4 c =
    let r = c.requires in
    let b = (goal.at.count_table-requires-4 c).After-reset in
    let s₀ : Spare (load r point + (load r segment + (load r quad + load r hex))) c.reset.new.self = room b in
    let s₁ = spare_after (load r point) {m = load r segment + (load r quad + load r hex)} (omega arith) c.count_table.ensures s₀ in
    let s₂ = spare_after (load r segment) {m = load r quad + load r hex} (omega arith) c.count_table-2.ensures s₁ in
    let s₃ = spare_after (load r quad) {m = load r hex} (omega arith) c.count_table-3.ensures s₂ in
    (omega arith, (omega arith, takes r hex (load r hex) (omega arith) c.entries-vertices.ensures (omega (arith, ranks_long b)) s₃))

pub finish-requires-clause-complete : goal.finish-requires-clause-complete
finish-requires-clause-complete c =
    let r = c.requires in
    let b = (goal.at.finish-requires-clause-complete c).After-reset in
    let e = c.entries-vertices.ensures in
    let t = counted_tally r (cleared b) (by_kind r point point_weights e c.count_table.ensures) (by_kind r segment segment_weights e c.count_table-2.ensures) (by_kind r quad quad_weights e c.count_table-3.ensures) (by_kind r hex hex_weights e c.count_table-4.ensures) in
    λ a f h l. let k : f < c.args.count = omega (arith, l, ranks_long b) in subst Complete (sym (t a f h k)) (complete r a f h k)

pub returns-clause-output : goal.returns-clause-output
returns-clause-output c =
    let r = c.requires in
    let b = (goal.at.returns-clause-output c).After-reset in
    let e = c.entries-vertices.ensures in
    let t = counted_tally r (cleared b) (by_kind r point point_weights e c.count_table.ensures) (by_kind r segment segment_weights e c.count_table-2.ensures) (by_kind r quad quad_weights e c.count_table-3.ensures) (by_kind r hex hex_weights e c.count_table-4.ensures) in
    let after : ℕ → ℕ → ℤ = λ a f. get_or c.finish.new.out (3 * f + a) (pos 0) in
    overwrites r _ _ (omega arith) (omega arith)
    (λ a f h l. written r a f h l (after a f) (subst (λ (t : Tally). MeanOf t (after a f)) (t a f h l) (c.finish.ensures.means a f h (omega (arith, l, ranks_long b)))))
    (λ a f h l. c.finish.ensures.others_kept a f h (omega (arith, l, ranks_long b)))
