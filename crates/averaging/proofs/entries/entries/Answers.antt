-- The chunks that are taken are the table's entries.
use mathlib.Core.Path.{◌∙◌}
use Rattle.averaging.proofs.Chunks.{chunks_are}
use Rattle.averaging.proofs.entries.entries.Goals as goal

pub returns : goal.returns
returns g c = c.as_chunks.ensures.front ∙ chunks_are g.row.N c.args.table.now
