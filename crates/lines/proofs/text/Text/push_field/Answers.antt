-- A space, and the number.
use Rattle.lines.proofs.Runs.{◌then◌, room_rest}
use Rattle.lines.proofs.text.Text.push_field.Goals as goal

pub push_number-requires : goal.push_number-requires
push_number-requires g c = room_rest _ c.push_byte.ensures c.requires

pub returns : goal.returns
returns g c = c.push_byte.ensures then c.push_number.ensures
