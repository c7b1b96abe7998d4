-- The means of one more vertex.
use Rattle.std.proofs.Common.{◌≡◌, ℕ, ◌/◌, ◌^◌, pos, ◌+ℤ◌, ℤ, arith, lit<, ◌∙◌, to_z-of_z}
use mir.Syntax.{w32}
use mir.Val.{SFits}
use borrow.Author.Rules.{sfits_of}
use Rattle.averaging.specs.Tally.{Tally, tally_at}
use Rattle.averaging.specs.Pass.{divisor_of, MeanOf}
use Rattle.averaging.proofs.Triples.{triple_more, triple_other}
use Rattle.averaging.proofs.means.finish.Goals as goal

pub divisor_of-divisor-requires : goal.divisor_of-divisor-requires
divisor_of-divisor-requires c = let k = c.requires.complete 0 c.loop-f.f (lit< tt) (omega (arith, c.loop-f-test.true)) in (k.low, k.few)

mean : (t : Tally) (divisor : ℕ) (z : ℤ) → divisor ≡ divisor_of t → pos (t.sum / divisor) ≡ z +ℤ pos (2 ^ 29) → MeanOf t z
mean t divisor z is e = rw is at e

pub loop-f-preserved : goal.loop-f-preserved
loop-f-preserved c =
    let a = c.args in
    let l = c.loop-f in
    let x = c.mean_of in
    let y = c.mean_of-in-loop-f in
    let z = c.mean_of-in-loop-f-2 in
    let is = c.divisor_of-divisor.ensures in
    let fx : SFits w32 x.result = sfits_of x.type_inv in
    let fy : SFits w32 y.result = sfits_of y.type_inv in
    let fz : SFits w32 z.result = sfits_of z.type_inv in
    let at : ℕ → Tally = λ axis. tally_at a.tallies.now axis l.f in
    simp to_z-of_z (record {
      means = triple_more (pos 0) (λ (axis g : ℕ) (z : ℤ). MeanOf (tally_at a.tallies.now axis g) z) l.out l.f x.result y.result z.result (omega arith) l.invariant.means
          (mean (at 0) _ x.result is x.ensures) (mean (at 1) _ y.result is y.ensures) (mean (at 2) _ z.result is z.ensures);
      others_kept = λ axis g h k. triple_other (pos 0) l.out l.f x.result y.result z.result g axis h (λ e. omega arith) ∙ l.invariant.others_kept axis g h (omega arith);
    })
