-- Words of inner contracts: what a round must be. Its means draw on vertices that are there, each with a weight above 0, and the weights sum
-- to the divisor.
use Rattle.std.specs.Prelude.{◌≡◌, List, [], ◌∷◌, ℕ, ◌+◌, ◌<◌, length}
use Rattle.rules.specs.Lists.{Each}
use Rattle.rules.specs.Means.{Draw, Mean, Round}

-- the sum of the weights
abbrev pub weights : List Draw → ℕ
weights [] = 0
weights (t ∷ ts) = t.weight + weights ts

-- a draw on one of n vertices
pub record GoodDraw (n : ℕ) (t : Draw) : Type 0 where
  pub known : t.vertex < n
  pub counted : 0 < t.weight

pub record GoodMean (n : ℕ) (m : Mean) : Type 0 where
  pub each : Each (GoodDraw n) m.draws
  pub whole : weights m.draws ≡ m.divisor
  pub some : 0 < m.divisor

-- how many vertices there are after some rounds, from n at the start
abbrev pub count : ℕ → List Round → ℕ
count n [] = n
count n (r ∷ past) = length r

abbrev pub GoodRounds : ℕ → List Round → Type 0
GoodRounds n [] = Unit {0}
GoodRounds n (r ∷ past) = Each (GoodMean (count n past)) r × GoodRounds n past
