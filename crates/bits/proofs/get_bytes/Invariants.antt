-- x is what the bytes passed spell.
use Rattle.std.proofs.Common.{◌≡◌, take}
use Rattle.rules.specs.Bits.{number}
use Rattle.bits.proofs.get_bytes.Given as goal

abbrev pub invariant-loop-byte : goal.invariant-loop-byte
invariant-loop-byte l = l.x ≡ number (take l.byte-index l.s)
