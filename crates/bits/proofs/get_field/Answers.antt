-- The first n bytes hold the field, and the last eight of them do (`field_window`).
use Rattle.std.proofs.Common.{ℕ, ◌+◌, ◌*◌, ◌/◌, ◌%◌, ◌^◌, ◌-◌, ap, ◌∙◌, arith}
use Rattle.bits.proofs.Windows.{field_window, field_fits}
use Rattle.bits.proofs.get_field.Goals as goal

pub returns-then-n-lt8 : goal.returns-then-n-lt8
returns-then-n-lt8 c =
    let a = c.args in
    let n : ℕ = (a.at + a.k + 7) / 8 in
    c.cut.ensures
    ∙ ap (λ (x : ℕ). x / 2 ^ (8 * n - (a.at + a.k)) % 2 ^ a.k) c.get_bytes.ensures
    ∙ field_window a.s.now a.at a.k 0 n n (λ j. (c.type_inv.s j).fits) (omega arith) (omega arith) (omega arith) (omega arith)

pub overflow_cast-result-2 : goal.overflow_cast-result-2
overflow_cast-result-2 c = record { fits = field_fits c.args.k _ (omega arith) c.cut-2.ensures }

pub returns : goal.returns
returns c =
    let a = c.args in
    let n : ℕ = (a.at + a.k + 7) / 8 in
    c.cut-2.ensures
    ∙ ap (λ (x : ℕ). x / 2 ^ (8 * n - (a.at + a.k)) % 2 ^ a.k) c.get_bytes-2.ensures
    ∙ field_window a.s.now a.at a.k _ _ n (λ j. (c.type_inv.s j).fits) (omega arith) (omega arith) (omega arith) (omega arith)
