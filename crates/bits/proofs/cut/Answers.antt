-- A shift down is a quotient, and a mask of k ones a remainder.
use Prim.Native.Nat.{◌/◌, ◌^◌}
use Rattle.bits.proofs.Shifts.{mask_law}
use Rattle.bits.proofs.cut.Goals as goal

pub returns : goal.returns
returns c = mask_law 64 c.args.k (c.args.x / 2 ^ c.args.below) c.requires.1
