-- Cleared, ranked, counted, looked through.
use Rattle.std.proofs.Common.{◌≡◌, ap, ◌∙◌, length, arith}
use Rattle.rules.specs.Lists.{keep, up_from}
use Rattle.tables.specs.Lent.{mesh_in}
use Rattle.irregular.specs.Times.{irregular_in}
use Rattle.irregular.proofs.Finished.{finished_count}
use Rattle.irregular.proofs.tallies.Window.count_irregular.Goals as goal

pub returns : goal.returns
returns c =
    let a = c.args in
    let marked = c.mark_ranks.ensures in
    let e : length c.mark_ranks.new.self.ranks.now ≡ length a.self.now.ranks.now =
    omega (arith, c.mark_ranks.new.self.same, ap length marked.kept.1, c.fill-2.ensures.len, a.self.now.same) in
    rw (c.count_unusual.ensures, c.tally_all.ensures.kept)
    (finished_count marked.ranked (rw marked.kept.0 at c.tally_all.ensures.counted)
    ∙ ap (λ n. length (keep (irregular_in (mesh_in a.mesh.tables)) (up_from a.self.now.first n))) e)
