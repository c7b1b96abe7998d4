use Rattle.numbering.specs.Parts.{table_keys}
use Rattle.numbering.proofs.Passes.{met_none, counted}
use Rattle.numbering.proofs.count.count_table_of.Goals as goal

pub returns : goal.returns
returns g c =
    counted (met_none c.in_ok-room.ensures) _ (table_keys c.args.of c.args.cells.now) c.meet_table_of.result c.meet_table_of.ensures
