-- The width of 0 is 1 (`width_zero`), and else the count of digits (`width_leading`).
use mathlib.Core.Path.{sym, ap, ◌∙◌}
use Rattle.rules.specs.Bits.{width_of}
use Rattle.bits.proofs.IndexWidth.{width_zero, width_leading}
use Rattle.bits.proofs.index_width.Goals as goal

pub returns-then-n-eq0 : goal.returns-then-n-eq0
returns-then-n-eq0 c = sym (ap width_of c.if-n-eq0.true ∙ width_zero)

pub returns-else-n-eq0 : goal.returns-else-n-eq0
returns-else-n-eq0 c = width_leading 32 c.args.n c.ranges.n.fits c.if-n-eq0.false
