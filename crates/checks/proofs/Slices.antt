-- Parts of a slice that a call is lent, as lists: the rest of a slice, and an entry of a table. Assumes nothing.
use mathlib.Core.Path.{◌≡◌, sym}
use mathlib.Core.Logic.{inl, inr}
use mathlib.Core.List.{List, [], ◌∷◌}
use Prim.Native.Nat.{ℕ, zero, suc, ◌+◌, ◌-◌, ◌*◌, ◌/◌, ◌≤◌, ◌<◌}
use native.Mathlib.Nat.{le_of_eq, add-sub_cancel_left, mul-div-le, mul-le-mul_left}
use native.Mathlib.Omega.{arith}
use lib.ListN.{length, take, drop, get_or, length-drop}
use lib.Seq.{take_all}
use Rattle.rules.specs.Lists.{cut}
use Rattle.lists.specs.Membership.{In}
use Rattle.lists.proofs.Tables.{cut_entry, length_cut}

module _ {A : Type 0} where
  pub rest_part : (n : ℕ) (xs : List A) → take (length xs - n) (drop n xs) ≡ drop n xs
  rest_part n xs = take_all (length xs - n) (drop n xs) (le_of_eq (length-drop n xs))

  -- entry number c lies within its table
  pub place_within : (k c : ℕ) (xs : List A) → c < length xs / k → k * c + k ≤ length xs
  place_within k c xs h = omega (arith, mul-le-mul_left k h, mul-div-le (length xs) k)

  pub place_part : (k c : ℕ) (xs : List A) → c < length xs / k → take (k * c + k - k * c) (drop (k * c) xs) ≡ get_or (cut k xs) c []
  place_part k c xs h = rw (add-sub_cancel_left (k * c) k) (sym (cut_entry k c xs [] h))

  -- the same where c is below the count of the table's entries
  pub entry_within : (k c : ℕ) (xs : List A) → c < length (cut k xs) → k * c + k ≤ length xs
  entry_within k c xs h = place_within k c xs (rw (length_cut k xs) at h)

  pub entry_part : (k c : ℕ) (xs : List A) → c < length (cut k xs) → take (k * c + k - k * c) (drop (k * c) xs) ≡ get_or (cut k xs) c []
  entry_part k c xs h = place_part k c xs (rw (length_cut k xs) at h)

-- what is in the front of a list is in the list
pub take_in : (xs : List (List ℕ)) (i : ℕ) (x : List ℕ) → In x (take i xs) → In x xs
take_in xs zero x j = absurd j
take_in [] (suc i) x j = absurd j
take_in (y ∷ xs) (suc i) x (inl e) = inl e
take_in (y ∷ xs) (suc i) x (inr j) = inr (take_in xs i x j)
