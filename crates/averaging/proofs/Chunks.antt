-- The entries of a table are its chunks. Assumes nothing.
use mathlib.Core.Path.{◌≡◌, refl, ap}
use mathlib.Core.List.{List, ◌∷◌}
use Prim.Native.Nat.{ℕ, zero, suc, ◌/◌}
use lib.ListN.{length, take, drop}
use Rattle.std.specs.Simd.{first_chunks}
use Rattle.rules.specs.Lists.{entries, cut}

first_entries : {A : Type 0} (n k : ℕ) (xs : List A) → first_chunks n k xs ≡ entries n k xs
unfolding entries
first_entries n zero xs = refl
first_entries n (suc k) xs = ap (◌∷◌ (take n xs)) (first_entries n k (drop n xs))

pub chunks_are : {A : Type 0} (n : ℕ) (xs : List A) → first_chunks n (length xs / n) xs ≡ cut n xs
unfolding cut
chunks_are n xs = first_entries n (length xs / n) xs
