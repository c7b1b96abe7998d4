-- Words of inner contracts: the written coordinates of one axis after some rounds, and where no remainder was left. A list of rounds has
-- the latest first.
use Rattle.std.specs.Prelude.{◌≡◌, List, [], ◌∷◌, map, ℕ, ℤ}
use Rattle.rules.specs.Lists.{Each}
use Rattle.rules.specs.Means.{Draw, Round, mean_of, rounded, remainder}

-- from the first mesh's coordinates xs, each mean rounded
unfoldable pub written : List Round → List ℤ → List ℤ
written [] xs = xs
written (r ∷ past) xs = map (rounded (written past xs)) r

-- the division of vertex v left no remainder, nor did one that feeds a vertex it draws on
unfoldable pub NoRemainder : List Round → List ℤ → ℕ → Type 0
NoRemainder [] xs v = Unit {0}
NoRemainder (r ∷ past) xs v =
    (remainder (written past xs) (mean_of r v) ≡ 0) × Each (λ (t : Draw). NoRemainder past xs t.vertex) (mean_of r v).draws
