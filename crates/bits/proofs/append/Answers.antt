-- Nothing is shifted out, and the two parts share no bit.
use Rattle.bits.proofs.Shifts.{append_law}
use Rattle.bits.proofs.append.Goals as goal

pub returns : goal.returns
returns c = append_law 64 c.args.k c.args.x c.args.v c.requires.1 c.requires.2
