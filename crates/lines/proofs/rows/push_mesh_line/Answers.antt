-- The counts as the rules take them.
use Rattle.std.proofs.Common.{◌∙◌}
use Rattle.tables.specs.Lent.{mesh_in}
use Rattle.lines.proofs.Longest.{narrow, counts_shown}
use Rattle.lines.proofs.rows.push_mesh_line.Goals as goal

pub counts_in-counts-requires : goal.counts_in-counts-requires
counts_in-counts-requires c = narrow (mesh_in c.args.fitting.tables) c.args.fitting.fits c.places.result c.places.ensures

pub push_line-requires : goal.push_line-requires
push_line-requires c = rw (counts_shown (mesh_in c.args.fitting.tables) c.args.fitting.fits (c.counts_in-counts.ensures ∙ c.places.ensures)) c.requires

pub returns : goal.returns
returns c = rw (counts_shown (mesh_in c.args.fitting.tables) c.args.fitting.fits (c.counts_in-counts.ensures ∙ c.places.ensures)) at c.push_line.ensures
