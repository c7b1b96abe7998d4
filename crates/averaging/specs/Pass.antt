-- Words of inner contracts: the pass over a table of cells. Each child counts for its corners, with the sum of their split positions.
use Rattle.std.specs.Prelude.{◌≡◌, List, [], ℕ, ◌*◌, ◌/◌, ◌≤◌, ◌<◌, ◌^◌, length, get_or, ℤ, pos, ◌+ℤ◌, nat_abs}
use Rattle.integers.specs.Range.{InRange}
use Rattle.averaging.specs.Sums.{sum_to}
use Rattle.averaging.specs.Tally.{Tally, repeat, corner_step}

-- a coordinate counted from the least one, so that it is not negative
abbrev pub biased : ℤ → ℕ
biased z = nat_abs (z +ℤ pos (2 ^ 29))

-- the biased coordinate on axis a of corner u of a cell, from the three coordinates of each vertex
unfoldable pub corner_coordinate : List (List ℤ) → List ℕ → ℕ → ℕ → ℕ
corner_coordinate vertices cell a u = biased (get_or (get_or vertices (get_or cell u 0) []) a (pos 0))

-- the coordinates of several corners, three for each: on axis a of corner u
abbrev pub gathered_at : List (List ℕ) → ℕ → ℕ → ℕ
gathered_at gathered a u = get_or (get_or gathered u []) a 0

-- The split positions of all corners of a child, summed, in eighths: each of the parent's n corners u, at e u, has a weight.
unfoldable pub weighed : ℕ → List ℕ → (ℕ → ℕ) → ℕ
weighed n row e = sum_to n (λ (u : ℕ). get_or row u 0 * e u)

-- a child of dimension d with n corners, which sum to s
unfoldable pub child_step : ℕ → ℕ → ℕ → List ℕ → ℕ → Tally → Tally
child_step n d s child = repeat n (λ (j : ℕ). corner_step d s (get_or child j 0))

-- the n children of a cell whose corners are at e
unfoldable pub cell_step : ℕ → ℕ → List (List ℕ) → (ℕ → ℕ) → List (List ℕ) → ℕ → Tally → Tally
cell_step n d weights e children = repeat n (λ (i : ℕ). child_step n d (weighed n (get_or weights i []) e) (get_or children i []))

-- how many cells of n corners stand in a table
abbrev pub cell_count : ℕ → List ℕ → ℕ
cell_count n corners = length corners / n

-- the cells of a table with their children, on axis a
unfoldable pub table_step : ℕ → ℕ → List (List ℕ) → List (List ℤ) → List (List ℕ) → List (List (List ℕ)) → ℕ → ℕ → Tally → Tally
table_step n d weights vertices cells families a =
    repeat (length cells) (λ (c : ℕ). cell_step n d weights (corner_coordinate vertices (get_or cells c []) a) (get_or families c []))

-- ---- what the pass needs of its tables

-- each corner is one of the first n vertices
abbrev pub Known : ℕ → List ℕ → Type 0
Known n corners = (u : ℕ) → u < length corners → get_or corners u 0 < n

-- all coordinates are in range
abbrev pub Near : List (List ℤ) → Type 0
Near vertices = (v a : ℕ) → v < length vertices → a < 3 → InRange (get_or (get_or vertices v []) a (pos 0))

-- cells with their n children each: the corners of the cells are among `coarse` vertices, those of the children among `fine`
pub record Families (n coarse fine : ℕ) (cells : List (List ℕ)) (families : List (List (List ℕ))) : Type 0 where
  pub all : length families ≡ length cells
  pub old : (c : ℕ) → c < length cells → Known coarse (get_or cells c [])
  pub new : (c i : ℕ) → c < length cells → i < n → Known fine (get_or (get_or families c []) i [])

-- ---- the means

-- "divided by 8 × (2 to the power rank) × valence"
abbrev pub divisor_of : Tally → ℕ
divisor_of t = 8 * 2 ^ t.rank * t.valence

-- a tally whose mean is a biased coordinate
pub record Complete (t : Tally) : Type 0 where
  pub low : t.rank < 4
  pub some : 0 < t.valence
  pub few : t.valence ≤ 2 ^ 22
  pub range : t.sum < divisor_of t * 2 ^ 30

-- z is the mean, with the bias taken off
abbrev pub MeanOf : Tally → ℤ → Type 0
MeanOf t z = pos (t.sum / divisor_of t) ≡ z +ℤ pos (2 ^ 29)
