-- The one line of a refusal has room.
use Rattle.lines.proofs.Longest.{room_for_refusal, refused_shown}
use Rattle.lines.proofs.rows.push_refused_line.Goals as goal

pub push_line-requires : goal.push_line-requires
push_line-requires c = rw (refused_shown c.args.number c.ranges.number.fits) (room_for_refusal c.args.number c.requires c.ranges.number.fits)

pub returns : goal.returns
returns c = record { room = room_for_refusal c.args.number c.requires c.ranges.number.fits; appended = rw (refused_shown c.args.number c.ranges.number.fits) at c.push_line.ensures }
