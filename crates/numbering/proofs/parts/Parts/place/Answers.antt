use Rattle.numbering.proofs.Places.{itself}
use Rattle.numbering.proofs.parts.Parts.place.Goals as goal

pub returns-in-Hexes : goal.returns-in-Hexes
returns-in-Hexes c = itself c.args.self c.args.part c.args.corner c.requires.part_in_bounds c.requires.corner_bound c.in-Hexes.is
