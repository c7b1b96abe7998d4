-- Nothing is lost in the cast, and the division is exact.
use mir.Syntax.{w32}
use mir.ValLaws.{to_z-of_z}
use lib.Ieee.{of_bits}
use Rattle.millimetres.proofs.Exact.{divided}
use Rattle.millimetres.proofs.in_millimetres.Goals as goal

pub returns : goal.returns
unfolding of_bits
returns c = rw (to_z-of_z w32 c.args.z c.ranges.z) (divided c.args.z c.requires)
