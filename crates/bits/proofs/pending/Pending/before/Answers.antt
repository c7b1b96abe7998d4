-- The bits before `at` in its byte are those that are put again (`pend_same`).
use Rattle.std.proofs.Common.{◌≡◌, ℕ, ◌*◌, ◌/◌, ◌%◌, ◌^◌, ◌-◌, get_or, ap, ◌∙◌, arith}
use Rattle.bits.specs.Writing.{put_at}
use Rattle.bits.proofs.Waiting.{pend_same}
use Rattle.bits.proofs.pending.Pending.before.Goals as goal

pub returns : goal.returns
returns c =
    let a = c.args in
    let u : ℕ = a.at % 8 in
    let bits : c.cut.result ≡ get_or a.d.now (a.at / 8) 0 / 2 ^ (8 - u) % 2 ^ u = c.cut.ensures ∙ ap (λ (b : ℕ). b / 2 ^ (8 - u) % 2 ^ u) c.from.ensures in (
      omega arith,
      λ k v.
          ap (λ (h : ℕ). put_at (put_at a.d.now (8 * (a.at / 8)) u h) a.at k v) bits
          ∙ pend_same a.d.now a.at k v (λ j. (c.type_inv.d j).fits) c.requires,
    )
