-- What is counted fits, since the tables are short. Each call finds the ranks of the first.
use Rattle.std.proofs.Common.{◌∙◌, arith}
use Rattle.irregular.proofs.Counts.{tally_le, counted_all}
use Rattle.irregular.proofs.tallies.Window.tally_all.Goals as goal

pub tally-requires-2 : goal.tally-requires-2
tally-requires-2 c = record {
  counts_fit = λ v l.
      let l₀ = rw c.tally.ensures.kept.1 at l in
      omega (arith, c.args.mesh.few, c.requires v l₀, tally_le c.tally.ensures.tallied v l₀);
}

pub tally-requires-3 : goal.tally-requires-3
tally-requires-3 c = record {
  counts_fit = λ v l.
      let l₁ = rw c.tally-2.ensures.kept.1 at l in
      let l₀ = rw c.tally.ensures.kept.1 at l₁ in
      omega (arith, c.args.mesh.few, c.requires v l₀, tally_le c.tally.ensures.tallied v l₀, tally_le c.tally-2.ensures.tallied v l₁);
}

pub tally-requires-4 : goal.tally-requires-4
tally-requires-4 c = record {
  counts_fit = λ v l.
      let l₂ = rw c.tally-3.ensures.kept.1 at l in
      let l₁ = rw c.tally-2.ensures.kept.1 at l₂ in
      let l₀ = rw c.tally.ensures.kept.1 at l₁ in
      omega (arith, c.args.mesh.few, c.requires v l₀, tally_le c.tally.ensures.tallied v l₀, tally_le c.tally-2.ensures.tallied v l₁, tally_le c.tally-3.ensures.tallied v l₂);
}

pub returns-clause-counted : goal.returns-clause-counted
returns-clause-counted c =
    let (f₁, r₁) = c.tally.ensures.kept in
    let (f₂, r₂) = c.tally-2.ensures.kept in
    let (f₃, r₃) = c.tally-3.ensures.kept in
    counted_all c.tally.ensures.tallied (rw (f₁, r₁) at c.tally-2.ensures.tallied) (rw (f₂ ∙ f₁, r₂ ∙ r₁) at c.tally-3.ensures.tallied)
    (rw (f₃ ∙ f₂ ∙ f₁, r₃ ∙ r₂ ∙ r₁) at c.tally-4.ensures.tallied) c.args.self.now.same c.requires
