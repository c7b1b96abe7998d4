-- Words of inner contracts: the table of specs/Chains.antt in a list of numbers: the heads of room + 1 slots, then the entries, each a
-- link and the c numbers of its key.
use Rattle.std.specs.Prelude.{◌≡◌, List, [], ◌∷◌, map, ℕ, ◌+◌, ◌*◌, ◌/◌, ◌%◌, ◌^◌, ◌≤◌, ◌<◌, length, get_or}
use Rattle.rules.specs.Lists.{up_from, Key, index_of, meet, meet_all}
use Rattle.numbering.specs.Chains.{Chains}

module _ {A : Type 0} where
  -- f 0, f 1, .., f (n - 1)
  abbrev pub firsts : (ℕ → A) → ℕ → List A
  firsts f n = map f (up_from 0 n)

-- the c numbers of w from `at` on
unfoldable pub run : List ℕ → ℕ → ℕ → Key
run w at c = firsts (λ (q : ℕ). get_or w (at + q) 0) c

-- ---- the hash, over the whole key. No law but `slot_below` depends on what it is.

-- the numbers of a key, mixed into h one after the other; the multiplier is 2 ^ 32 divided by the square of the golden ratio
unfoldable pub mix : ℕ → Key → ℕ
mix h [] = h
mix h (x ∷ xs) = mix ((h + x) * 1640531527 % 2 ^ 32) xs

-- the numbers of a key, added to s
unfoldable pub add : ℕ → Key → ℕ
add s [] = s
add s (x ∷ xs) = add ((s + x) % 2 ^ 32) xs

-- The slot of a key among room + 1: somewhere in a window of 2 ^ 16 slots that moves with the sum of its numbers. Cells that follow one another
-- name vertices close by, so their keys' slots lie close together and stay in the cache; keys with one sum still have a whole window.
unfoldable pub slot_of : ℕ → Key → ℕ
slot_of room k = (4 * add 0 k + mix 0 k / 2 ^ 16) % (room + 1)

-- ---- the layout

-- where entry e starts
abbrev pub place : ℕ → ℕ → ℕ → ℕ
place c room e = room + 1 + (c + 1) * e

-- how many numbers a table takes that has room for so many keys: (c + 2) room + 1
abbrev pub words_for : ℕ → ℕ → ℕ
words_for c room = place c room room

unfoldable pub head_at : List ℕ → ℕ → ℕ
head_at w h = get_or w h 0

unfoldable pub next_at : ℕ → List ℕ → ℕ → ℕ → ℕ
next_at c w room e = get_or w (place c room e) 0

unfoldable pub entry_key : ℕ → List ℕ → ℕ → ℕ → Key
entry_key c w room e = run w (place c room e + 1) c

-- the keys of the n entries, in order: what the table stands for
unfoldable pub keys : ℕ → List ℕ → ℕ → ℕ → List Key
keys c w room n = firsts (entry_key c w room) n

-- w holds a table of n keys of c numbers each, with room for `room`
pub record Table (c : ℕ) (w : List ℕ) (room n : ℕ) : Type 0 where
  pub fits : words_for c room ≤ length w
  pub few : room + 1 < 2 ^ 32
  pub used : n ≤ room
  pub chains : Chains (slot_of room) (room + 1) n (entry_key c w room) (head_at w) (next_at c w room)

-- ---- what meeting keys does

-- k was met: w became w', which holds a table of `count` keys, and k has the place `number` among them
pub record Met (c : ℕ) (w w' : List ℕ) (room n : ℕ) (k : Key) (number count : ℕ) : Type 0 where
  pub table : Table c w' room count
  pub keys_are : keys c w' room count ≡ meet (keys c w room n) k
  pub number_is : number ≡ index_of k (keys c w' room count)
  pub known : number < count

-- the keys ks were met one after the other
pub record MetAll (c : ℕ) (w w' : List ℕ) (room n : ℕ) (ks : List Key) (count : ℕ) : Type 0 where
  pub table : Table c w' room count
  pub keys_are : keys c w' room count ≡ meet_all (keys c w room n) ks
