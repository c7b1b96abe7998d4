-- Section 3: ranks and valences, the means of a round, the round, several rounds.
use Rattle.std.specs.Prelude.{List, [], ◌∷◌, map, ℕ, zero, suc, ◌*◌, ◌/◌, ◌^◌, length, get_or, ℤ, pos}
use Rattle.rules.specs.Lists.{concat_map, keep, cut, up_from, has, Key}
use Rattle.rules.specs.Mesh.{Mesh, hex, quad, segment, point, dimension, Topology, topology, mesh_of}
use Rattle.rules.specs.Split.{parts, split_by, split}
use Rattle.rules.specs.Means.{Draw, Mean, Round, rounded}

-- ---- rank and valence, in any mesh

-- the cells of a list that hold vertex v (rule 1.3)
unfoldable pub holding : ℕ → List (List ℕ) → List (List ℕ)
holding v cells = keep (has v) cells

-- the cells that count for a vertex, and their dimension (rule 3.2)
pub record Counted : Type 0 where
  pub rank : ℕ
  pub cells : List (List ℕ)

-- the cells of dimension d if there are any, else what is given for the higher dimensions (rule 3.1)
unfoldable pub or_else : ℕ → List (List ℕ) → Counted → Counted
or_else d [] higher = higher
or_else d (x ∷ xs) higher = record { rank = d; cells = x ∷ xs }

-- the cells of the lowest dimension that hold v; none and rank 3 for a vertex in no cell, which check 8 keeps out (rules 3.1 and 3.2)
unfoldable pub counted : Topology → ℕ → Counted
counted t v =
    or_else (dimension point) (holding v t.points)
    (or_else (dimension segment) (holding v t.segments)
    (or_else (dimension quad) (holding v t.quads)
    (record { rank = dimension hex; cells = holding v t.hexes })))

-- the lowest dimension of the cells that hold v (rule 3.1)
unfoldable pub rank : Topology → ℕ → ℕ
rank t v = (counted t v).rank

-- how many cells of that dimension hold v (rule 3.2)
unfoldable pub valence : Topology → ℕ → ℕ
valence t v = length (counted t v).cells

-- ---- the mean that a fine vertex moves to

-- a split position in eighths of a unit: each corner of the part has an equal share of 8 (rules 2.1 and 3.4)
unfoldable pub eighths : Key → List Draw
eighths part = map (λ (u : ℕ). record { vertex = u; weight = 8 / length part }) part

-- the split positions of all corners of a fine cell; `numbered` are the parts of the coarse mesh (rule 3.4)
unfoldable pub cell_draws : List Key → List ℕ → List Draw
cell_draws numbered cell = concat_map (λ (g : ℕ). eighths (get_or numbered g [])) cell

-- the draws of all counted cells, over 8 times 2 to the power of the rank times the valence (rules 3.4 and 3.5)
unfoldable pub mean_at : List Key → Topology → ℕ → Mean
mean_at numbered fine f =
    let c = counted fine f in
    record { draws = concat_map (cell_draws numbered) c.cells; divisor = 8 * 2 ^ c.rank * length c.cells }

-- for each fine vertex the mean of the centroids of its counted fine cells (rule 3.3)
unfoldable pub means : Topology → Round
means t =
    let numbered = parts t in
    let fine = split_by numbered t in
    map (mean_at numbered fine) (up_from 0 (length numbered))

-- ---- a round, and several

-- the coordinates on one axis: 0, 1 or 2 for the axes 1, 2, 3 (rule 1.2)
unfoldable pub axis : ℕ → List ℤ → List ℤ
axis a xs = map (λ (p : List ℤ). get_or p a (pos 0)) (cut 3 xs)

-- the rounded means, vertex after vertex, axis by axis (rule 3.6)
unfoldable pub averaged : Round → List ℤ → List ℤ
averaged r xs =
    let a = axis 0 xs in
    let b = axis 1 xs in
    let c = axis 2 xs in
    concat_map (λ (m : Mean). rounded a m ∷ rounded b m ∷ rounded c m ∷ []) r

-- a round (rule 3.7)
unfoldable pub round : Mesh → Mesh
round m = let t = topology m in mesh_of (averaged (means t) m.vertices) (split t)

-- the mesh after k rounds (rule 3.8)
unfoldable pub refined : ℕ → Mesh → Mesh
refined zero m = m
refined (suc k) m = round (refined k m)

-- the topology after k rounds: no coordinate decides it (rule 4.3)
unfoldable pub split_times : ℕ → Topology → Topology
split_times zero t = t
split_times (suc k) t = split (split_times k t)

-- the means of each of the first k rounds, the latest first; they depend on the topology alone (rule 4.3)
unfoldable pub rounds_of : ℕ → Topology → List Round
rounds_of zero t = []
rounds_of (suc k) t = means (split_times k t) ∷ rounds_of k t
