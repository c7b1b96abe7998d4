-- Words of inner contracts: weights, by the rules. The split positions of all corners of a child, in eighths, summed, count each corner of
-- the parent with a weight.
use Rattle.std.specs.Prelude.{cond, List, [], ◌∷◌, map, ℕ, ◌+◌, eqb}
use Rattle.rules.specs.Lists.{concat_map}
use Rattle.rules.specs.Mesh.{Kind, whole, smallest}
use Rattle.rules.specs.Means.{Draw}
use Rattle.rules.specs.Averaging.{eighths}

-- what child i draws on, by the places of its parent's corners
unfoldable pub child_draws : Kind → ℕ → List Draw
child_draws κ i = concat_map (λ (j : ℕ). eighths (smallest κ i j)) (whole κ)

-- how many eighths of place u are counted
unfoldable pub weight_at : List Draw → ℕ → ℕ
weight_at [] u = 0
weight_at (t ∷ ts) u = let r = weight_at ts u in cond (eqb u t.vertex) (t.weight + r) r

-- a row for each child, and in it a weight for each corner
unfoldable pub weight_rows : Kind → List (List ℕ)
weight_rows κ = map (λ (i : ℕ). map (weight_at (child_draws κ i)) (whole κ)) (whole κ)
