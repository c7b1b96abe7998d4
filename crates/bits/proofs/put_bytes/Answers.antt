-- The last bytes of the four that spell x (`last_bytes`).
use Rattle.std.proofs.Common.{length, ◌∙◌, arith}
use Rattle.bits.proofs.Windows.{last_bytes}
use Rattle.bits.proofs.put_bytes.Goals as goal

pub returns : goal.returns
returns c =
    c.copy_from_slice.ensures.after
    ∙ last_bytes (length c.args.d.now) c.args.x _ _ c.requires c.to_be_bytes.ensures (omega arith) (omega arith)
