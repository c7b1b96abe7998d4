-- Words of inner contracts: what meeting a key answers.
use Rattle.std.specs.Prelude.{◌≡◌, List, ℕ, ◌≤◌, ◌<◌, length, Option, Some, None}
use Rattle.rules.specs.Lists.{Key, index_of, meet}
use Rattle.numbering.specs.declared.table.MetKey.{MetKey}
use Rattle.numbering.specs.Table.{keys, Met}

-- the place of k among known keys; or it is not among them
abbrev pub Found : List Key → Key → Option ℕ → Type 0
Found known k (Some number) = (number ≡ index_of k known) × (number < length known)
Found known k None = length known ≤ index_of k known

-- the key has its place; or it is new and there is no room for it, and nothing has changed
abbrev pub Answered : ℕ → List ℕ → List ℕ → ℕ → ℕ → Key → Option MetKey → Type 0
Answered c w w' room n k (Some met) = Met c w w' room n k met.number met.known
Answered c w w' room n k None = (w' ≡ w) × (room < length (meet (keys c w room n) k))
