-- Words of inner contracts: a table of keys in a list of numbers, with a tag for each key: the keys in front, as the numbering keeps
-- them, and the tags behind them.
use Rattle.std.specs.Prelude.{◌≡◌, Result, Ok, Err, List, ℕ, ◌+◌, ◌≤◌, ◌<◌, length, get_or, take}
use Rattle.rules.specs.Lists.{Key, index_of, meet}
use Rattle.lists.specs.Membership.{In}
use Rattle.numbering.specs.Table.{words_for, keys, Table}
use Rattle.checks.specs.declared.tagged.Stopped.{Stopped}
use Rattle.checks.specs.declared.tagged.Stopped.TheVariants.{Differs, Full}

-- the table of keys of c numbers, with room for so many
abbrev pub front : ℕ → ℕ → List ℕ → List ℕ
front c room w = take (words_for c room) w

-- the tag of key e
abbrev pub beside : ℕ → ℕ → List ℕ → ℕ → ℕ
beside c room w e = get_or w (words_for c room + e) 0

-- w holds a table of n keys and their tags
pub record Tagged (c : ℕ) (w : List ℕ) (room n : ℕ) : Type 0 where
  pub fits : words_for c room + room ≤ length w
  pub table : Table c (front c room w) room n

-- ---- what meeting a key with a tag does

-- the key was met, and its tag is t; the other tags are as they were
pub record Agreed (c : ℕ) (w w' : List ℕ) (room n count : ℕ) (k : Key) (t : ℕ) : Type 0 where
  pub tagged : Tagged c w' room count
  pub keys_are : keys c (front c room w') room count ≡ meet (keys c (front c room w) room n) k
  pub own : beside c room w' (index_of k (keys c (front c room w') room count)) ≡ t
  pub others : (e : ℕ) → e < n → beside c room w' e ≡ beside c room w e

-- the key was met before, with another tag
pub record Differed (c : ℕ) (w : List ℕ) (room n : ℕ) (k : Key) (t : ℕ) : Type 0 where
  pub known : In k (keys c (front c room w) room n)
  pub other : beside c room w (index_of k (keys c (front c room w) room n)) ≡ t → ⊥

abbrev pub TagMet : ℕ → List ℕ → List ℕ → ℕ → ℕ → Key → ℕ → Result ℕ Stopped → Type 0
TagMet c w w' room n k t (Ok count) = Agreed c w w' room n count k t
TagMet c w w' room n k t (Err Differs) = Differed c w room n k t
TagMet c w w' room n k t (Err Full) = Unit {0}

-- how many keys there are then, of the n before
abbrev pub known_then : ℕ → Result ℕ Stopped → ℕ
known_then n (Ok count) = count
known_then n (Err e) = n

-- with how many keys there are then
abbrev pub counted : Result (Unit {0}) Stopped → ℕ → Result ℕ Stopped
counted (Ok u) n = Ok n
counted (Err e) n = Err e
