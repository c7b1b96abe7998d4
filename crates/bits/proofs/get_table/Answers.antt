-- One field more is read behind those passed, and its entry stored behind theirs (`entry_stored`).
use Rattle.std.proofs.Common.{ℕ, ◌^◌, ◌<◌, map, sym, ap, subst, arith}
use native.Mathlib.Nat.{mul-zero}
use lib.Seq.{length-take-le}
use Rattle.bits.proofs.Fields.{field_lt}
use Rattle.bits.proofs.Tables.{table_none, entry_stored, entries_stored}
use Rattle.bits.proofs.get_table.Goals as goal

pub loop-x-init : goal.loop-x-init
loop-x-init g c =
    let a = c.args in
    record { at = omega (arith, mul-zero a.w); front = ap (map g.T.Entry.entry) (sym (table_none a.s.now a.at a.w)) }

pub of_field-requires : goal.of_field-requires
of_field-requires g c = c.requires.fields _ (subst (λ (v : ℕ). v < 2 ^ c.args.w) (sym c.get_field.ensures) (field_lt c.args.s.now c.loop-x.p c.args.w))

pub loop-x-preserved : goal.loop-x-preserved
loop-x-preserved g c =
    let a = c.args in
    let h = c.loop-x.invariant in
    record {
      at = omega (arith, h.at);
      front = entry_stored g.T.Entry.entry a.s.now a.at a.w c.loop-x.x-index c.loop-x.front (omega arith) c.of_field.ensures c.get_field.ensures h.at h.front;
    }

pub returns : goal.returns
returns g c =
    let a = c.args in
    let long = length-take-le a.n a.t.now (omega arith) in
    entries_stored g.T.Entry.entry a.s.now a.at a.w a.n c.loop-x.x-index c.loop-x.front a.t.now (omega (arith, c.loop-x.auto.front, long)) (omega (arith, c.loop-x.auto.front, long)) c.loop-x.invariant.front
