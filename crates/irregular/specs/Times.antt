-- Words of inner contracts: how often a vertex is named in a table, and its irregularity by these counts.
use Rattle.std.specs.Prelude.{Bool, not, cond, List, ℕ, ◌+◌, length, eqb}
use Rattle.rules.specs.Lists.{keep}
use Rattle.rules.specs.Mesh.{Mesh}

-- how often v stands in a list: where no cell names a corner twice, how many cells of a flat table hold it
unfoldable pub times : ℕ → List ℕ → ℕ
times v xs = length (keep (eqb v) xs)

-- The lowest dimension in which a vertex is named is its rank, and how often is its valence: other than 1, 2, 4, 8?
abbrev pub irregular_by : ℕ → ℕ → ℕ → ℕ → Bool
irregular_by points segments quads hexes =
    cond (eqb points 0)
    (cond (eqb segments 0) (cond (eqb quads 0) (not (eqb hexes 8)) (not (eqb quads 4))) (not (eqb segments 2)))
    (not (eqb points 1))

-- the same of the tables of a mesh
abbrev pub irregular_in : Mesh → ℕ → Bool
irregular_in m v = irregular_by (times v m.points) (times v m.segments) (times v m.quads) (times v m.hexes)

-- how many corners the cells of all tables have
abbrev pub corner_count : Mesh → ℕ
corner_count m = length m.hexes + (length m.quads + (length m.segments + length m.points))
