-- The bits wait together (`put_put`), or the first 32 of them are four bytes of the buffer (`put_first`).
use Rattle.std.proofs.Common.{◌≡◌, ℕ, ◌+◌, ◌*◌, ◌^◌, ◌-◌, List, ap, ap₂, ◌∙◌, arith, rules}
use Rattle.std.proofs.lemmas.List.Edits.{sets}
use Rattle.rules.specs.Bits.{bytes_of}
use Rattle.bits.specs.declared.pending.Pending.{Pending}
use Rattle.bits.specs.Writing.{Bytes, put_at}
use Rattle.bits.proofs.Waiting.{joined, put_first}
use Rattle.bits.proofs.Windows.{part_put}
use Rattle.bits.proofs.pending.Pending.put.Goals as goal

-- what the bits together are
bits : (p : Pending) (k v x y : ℕ) → x ≡ p.bits * 2 ^ k + y → y ≡ v → x ≡ p.bits * 2 ^ k + v
bits p k v x y e h = e ∙ ap (λ (n : ℕ). p.bits * 2 ^ k + n) h

pub invariant_of-result : goal.invariant_of-result
invariant_of-result c =
    let a = c.args in
    let same = bits a.self a.k a.v _ _ c.append-bits.ensures c.from.ensures in
    let j = joined a.d.now a.self a.k a.v _ (λ j. (c.type_inv.d j).fits) c.requires.1 (omega arith) same in
    record { few = c.if-count-le32.true; spelled = j.small }

pub returns-then-count-le32 : goal.returns-then-count-le32
returns-then-count-le32 c =
    let a = c.args in
    let same = bits a.self a.k a.v _ _ c.append-bits.ensures c.from.ensures in
    let j = joined a.d.now a.self a.k a.v _ (λ j. (c.type_inv.d j).fits) c.requires.1 (omega arith) same in
    (omega arith, j.one)

pub returns : goal.returns
returns c =
    let a = c.args in
    let d : List ℕ = a.d.now in
    let count : ℕ = a.self.count + a.k in
    let left : ℕ = count - 32 in
    let x : ℕ = c.append-bits.result in
    let bytes : Bytes d = λ j. (search rules) in
    let same = bits a.self a.k a.v _ _ c.append-bits.ensures c.from.ensures in
    let j = joined d a.self a.k a.v x bytes c.requires.1 (omega arith) same in
    let first = part_put d _ a.self.at 4 c.cut.result (omega arith) c.put_bytes.ensures ∙ ap (λ (y : ℕ). sets d a.self.at (bytes_of 4 y)) c.cut.ensures in (
      omega arith,
      ap₂ (λ (l : List ℕ) (y : ℕ). put_at l (8 * (a.self.at + 4)) left y) first c.cut-2.ensures
          ∙ put_first d a.self.at count x bytes (omega arith) (omega arith) j.small
          ∙ j.one,
    )
