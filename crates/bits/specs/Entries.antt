-- The law of a table's entries (`Entry`), for coordinates.
use Rattle.std.specs.Prelude.{◌≡◌, Bool, false, cond, ℕ, ◌+◌, ◌-◌, ◌^◌, ◌≤◌, ℤ, pos, negsuc}
use Rattle.std.proofs.Common.{sym, ap, ◌∙◌, add_assoc}
use Rattle.std.proofs.Math.Nat.{add_comm, add-sub_of_le, eq-sub_of_add-eq, sub-le-sub_left, le_trans}
use Rattle.std.proofs.Math.Numerals.{add-one-le}
use Rattle.std.proofs.Common.{lit≤}
use borrow.Author.Tests.{lt-ltb, le-ltb}
use Rattle.rules.specs.Refusals.{outside}
use Rattle.rules.specs.StoredForm.{to_field, of_field}
use Rattle.integers.proofs.Range.{inside}

-- what 2 ^ 30 takes away from n and 1 is taken away again
twice_off : (n : ℕ) → n + 1 ≤ 2 ^ 30 → n ≡ 2 ^ 30 - (2 ^ 30 - (n + 1) + 1)
twice_off n h =
    let v : ℕ = 2 ^ 30 - (n + 1) in
    eq-sub_of_add-eq n (v + 1) (ap (λ (x : ℕ). n + x) (add_comm v 1) ∙ sym (add_assoc n 1 v) ∙ add-sub_of_le h)

-- a coordinate as a field and back is the same
pub of_field_to_field : (z : ℤ) → outside z ≡ false → of_field (to_field z) ≡ z
unfolding to_field of_field
of_field_to_field (pos n) h =
    ap (λ (t : Bool). cond t (pos n) (negsuc (2 ^ 30 - (n + 1)))) (lt-ltb n (2 ^ 29) ((inside (pos n)).0 h))
of_field_to_field (negsuc n) h =
    let l : n + 1 ≤ 2 ^ 29 = add-one-le ((inside (negsuc n)).0 h) in
    let v : ℕ = 2 ^ 30 - (n + 1) in
    ap (λ (t : Bool). cond t (pos v) (negsuc (2 ^ 30 - (v + 1)))) (le-ltb v (2 ^ 29) (sub-le-sub_left l (2 ^ 30)))
    ∙ ap negsuc (sym (twice_off n (le_trans l (lit≤ tt))))
