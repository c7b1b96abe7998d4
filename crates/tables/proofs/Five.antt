-- Five tables at once, and parts of them. Assumes nothing.
use mathlib.Core.Path.{◌≡◌, sym}
use mathlib.Core.List.{List}
use Prim.Native.Nat.{ℕ, ◌≤◌}
use native.Mathlib.Omega.{arith}
use lib.ListN.{length, take, drop, length-take, length-drop, length-append}
use lib.Seq.{take_at}
use lib.IntN.{ℤ}
use Rattle.rules.specs.Lists.{overwritten}
use Rattle.rules.specs.Mesh.{mesh}

pub same_mesh : {xs xs' : List ℤ} {hs hs' qs qs' ss ss' ps ps' : List ℕ} → xs ≡ xs' → hs ≡ hs' → qs ≡ qs' → ss ≡ ss' → ps ≡ ps' → mesh xs hs qs ss ps ≡ mesh xs' hs' qs' ss' ps'
same_mesh a b c d e = rw (a, b, c, d, e)

module _ {A : Type 0} where
  pub length_part : (n : ℕ) (xs : List A) → n ≤ length xs → n ≡ length (take n xs)
  length_part n xs h = omega (arith, length-take n xs)

  pub part_fits : (n : ℕ) (xs ys : List A) → n ≤ length ys → length (take n xs) ≤ length ys
  part_fits n xs ys h = omega (arith, length-take n xs)

  pub front_overwritten : (n : ℕ) (old xs : List A) → n ≤ length xs → take n (overwritten old (take n xs)) ≡ take n xs
  unfolding overwritten
  front_overwritten n old xs h = take_at (take n xs) (drop (length (take n xs)) old) n (sym (length_part n xs h))

  pub length_overwritten : (old new : List A) → length new ≤ length old → length (overwritten old new) ≡ length old
  unfolding overwritten
  length_overwritten old new h = omega (arith, length-append new (drop (length new) old), length-drop (length new) old)
