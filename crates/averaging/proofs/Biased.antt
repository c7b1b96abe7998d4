-- A coordinate with 2 ^ 29 added: one in range is not negative then, and below 2 ^ 30. Assumes nothing.
use mathlib.Core.Path.{◌≡◌}
use Prim.Native.Nat.{◌<◌, ◌^◌}
use native.Mathlib.Omega.{arith}
use lib.IntN.{ℤ, pos, ◌+ℤ◌}
use lib.Signed.{pos-nat_abs}
use Rattle.integers.specs.Range.{InRange}
use Rattle.integers.proofs.Linear.{var, nat, ◌⊕◌}
use Rattle.integers.proofs.Range.{range_parts, not_negative, size}
use Rattle.averaging.specs.Pass.{biased}

module _ (x : ℤ) (h : InRange x) where
  pub biased_is : pos (biased x) ≡ x +ℤ pos (2 ^ 29)
  biased_is = pos-nat_abs (x +ℤ pos (2 ^ 29)) (let r = range_parts x h in not_negative (var x ⊕ nat (2 ^ 29)) (omega (arith, r)))

  pub biased_below : biased x < 2 ^ 30
  biased_below = let r = range_parts x h in omega (arith, r, size (var x ⊕ nat (2 ^ 29)) (omega (arith, r)))
