-- Words of inner contracts: what marking the corners of a table in a list of numbers leaves there, where the number at place v is
-- that of vertex first + v.
use Rattle.std.specs.Prelude.{◌≡◌, cond, List, ℕ, ◌+◌, ◌<◌, length, get_or}
use Rattle.rules.specs.Lists.{has}

-- each corner that has a place is marked by x, and all else is as it was
pub record Marked (first x : ℕ) (old new table : List ℕ) : Type 0 where
  pub kept : length new ≡ length old
  pub at : (v : ℕ) → v < length old → get_or new v 0 ≡ cond (has (first + v) table) x (get_or old v 0)
