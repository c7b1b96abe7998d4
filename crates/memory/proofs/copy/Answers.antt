use Rattle.std.proofs.Common.{◌∙◌}
use native.Mathlib.Omega.{arith}
use Rattle.memory.proofs.Stores.{front_turn, store_end, sets_front}
use Rattle.memory.proofs.copy.Goals as goal

pub loop-i-preserved : goal.loop-i-preserved
loop-i-preserved g c = front_turn _ c.index-src-i.is c.loop-i.invariant (omega (arith, c.loop-i-test.true))

pub returns : goal.returns
returns g c = store_end c.loop-i.invariant (omega (arith, c.loop-i-test.false)) ∙ sets_front c.args.dst.now c.args.src.now c.requires
