-- Below zero 2 ^ 30 is added (`cast_below`), and else the number is its field (`cast_same`).
use Rattle.bits.proofs.Coordinates.{cast_below, cast_same}
use Rattle.bits.proofs.I32Entry.to_field.Goals as goal

pub overflow_cast-result : goal.overflow_cast-result
overflow_cast-result c = (cast_below c.args.self c.ranges.self c.requires c.if-self-lt0.true).fits

pub returns-then-self-lt0 : goal.returns-then-self-lt0
returns-then-self-lt0 c = (cast_below c.args.self c.ranges.self c.requires c.if-self-lt0.true).is

pub returns-else-self-lt0 : goal.returns-else-self-lt0
returns-else-self-lt0 c = (cast_same c.args.self c.ranges.self c.requires c.if-self-lt0.false).is
