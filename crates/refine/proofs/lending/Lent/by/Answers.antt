-- The places of both tables, and the numbers.
use Rattle.std.proofs.Common.{ap, ◌∙◌}
use Rattle.rules.specs.Counts.{counts_of}
use Rattle.refine.proofs.Decided.{lent_is}
use Rattle.refine.proofs.lending.Lent.by.Goals as goal

pub returns : goal.returns
returns c = lent_is _ _ _ _ _ _ (c.places.ensures ∙ ap counts_of c.as_mesh.ensures) (c.places-2.ensures ∙ ap counts_of c.as_mesh-2.ensures)
