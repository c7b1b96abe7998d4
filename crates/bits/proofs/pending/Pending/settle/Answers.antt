-- The bits, with zero bits behind them, are whole bytes (`put_bytes`).
use Rattle.std.proofs.Common.{ℕ, ◌+◌, ◌*◌, ◌/◌, ◌^◌, ◌-◌, refl, ap, ◌∙◌, add-zero, arith, rules}
use Rattle.std.proofs.lemmas.List.Edits.{sets}
use Rattle.rules.specs.Bits.{bytes_of}
use Rattle.bits.proofs.Windows.{part_put, put_bytes, whole_fits}
use Rattle.bits.proofs.pending.Pending.settle.Goals as goal

pub overflow_cast-bits : goal.overflow_cast-bits
overflow_cast-bits c = record { fits = whole_fits c.args.self.count c.args.self.bits c.args.self.few c.args.self.spelled c.append-bits.ensures }

pub returns : goal.returns
returns c =
    let d = c.args.d.now in
    let p = c.args.self in
    let n : ℕ = (p.count + 7) / 8 in (
      refl,
      part_put d _ p.at n c.append-bits.result (omega arith) c.put_bytes.ensures
          ∙ ap (λ (x : ℕ). sets d p.at (bytes_of n x)) (c.append-bits.ensures ∙ add-zero (p.bits * 2 ^ (8 * n - p.count)))
          ∙ put_bytes d p.at p.count p.bits (λ j. (search rules)) p.spelled c.requires.0,
    )
