-- Words of inner contracts: a vertex is in a cell, by the tables: where these hold whole entries it is the test of check 8.
use Rattle.std.specs.Prelude.{Bool, not, ◌||◌, List, ℕ}
use Rattle.std.specs.List.{list_all}
use Rattle.rules.specs.Lists.{has}
use Rattle.rules.specs.Mesh.{Mesh}

-- each number of the one is in the other
abbrev pub within : List ℕ → List ℕ → Bool
within a b = list_all (λ (x : ℕ). has x b) a

-- a cell names the vertex
abbrev pub held_in : Mesh → ℕ → Bool
held_in m v = has v m.hexes || (has v m.quads || (has v m.segments || has v m.points))

abbrev pub isolated_in : Mesh → ℕ → Bool
isolated_in m v = not (held_in m v)
