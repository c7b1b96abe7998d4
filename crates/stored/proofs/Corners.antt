-- A test of the fields of a row, one after the other.
use Prim.Native.Nat.{ℕ, ◌+◌, ◌*◌, ◌<◌}
use mathlib.Core.Path.{◌≡◌, ap, ◌∙◌}
use mathlib.Core.Bool.{Bool, true, false}
use mathlib.Core.List.{List}
use native.Mathlib.Omega.{arith}
use lib.ListN.{get_or}
use Rattle.rules.specs.Lists.{any}
use Rattle.rules.specs.Bits.{field_at, table_at}
use Rattle.lists.proofs.Membership.{get_or_in}
use Rattle.lists.proofs.Tests.{in_any, any_append}
use Rattle.bits.proofs.Tables.{table_none, table_append, length_table_at, get_or_table_at}

module _ (p : ℕ → Bool) (s : List ℕ) (at w : ℕ) where
  -- no field yet
  pub row_none : any p (table_at s at w 0) ≡ false
  unfolding any
  row_none = ap (any p) (table_none s at w)

  -- one that fails the test, behind others that do
  pub row_more : (i : ℕ) → any p (table_at s at w i) ≡ false → p (field_at s (at + w * i) w) ≡ false → any p (table_at s at w (i + 1)) ≡ false
  unfolding any table_at
  row_more i h e =
      ap (any p) (table_append s at w i 1) ∙ any_append p (table_at s at w i) (table_at s (at + w * i) w 1) ∙ rw (h, e)

  -- one of n that passes it
  pub row_reaches : (i n : ℕ) → i < n → p (field_at s (at + w * i) w) ≡ true → any p (table_at s at w n) ≡ true
  row_reaches i n l e =
      let T : List ℕ = table_at s at w n in
      in_any p T (get_or T i 0) (get_or_in T i 0 (omega (arith, length_table_at s at w n))) (ap p (get_or_table_at s at w n i l) ∙ e)
