-- One byte more is put below those passed, which are at most seven.
use Rattle.std.proofs.Common.{ℕ, ◌<◌, sym, ◌∙◌, subst, arith, lit<}
use Rattle.bits.specs.Writing.{Bytes}
use Rattle.bits.proofs.Bytes.{number_nil}
use Rattle.bits.proofs.Windows.{front_step, front_lt}
use Rattle.bits.proofs.get_bytes.Goals as goal

pub loop-byte-init : goal.loop-byte-init
loop-byte-init c = sym number_nil

pub append-x-requires : goal.append-x-requires
append-x-requires c =
    let s = c.args.s.now in
    let bytes : Bytes s = λ j. (c.type_inv.s j).fits in
    let i = c.loop-byte.byte-index in
    (lit< tt, omega (arith, c.loop-byte.invariant, front_lt s i 7 bytes (omega arith)), subst (λ (x : ℕ). x < 256) (sym c.from.ensures) (bytes i))

pub loop-byte-preserved : goal.loop-byte-preserved
loop-byte-preserved c =
    let i = c.loop-byte.byte-index in
    c.append-x.ensures ∙ cc (c.loop-byte.invariant, c.from.ensures, front_step c.args.s.now i c.loop-byte-test.true)
