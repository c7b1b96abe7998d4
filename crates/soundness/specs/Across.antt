-- Words of inner contracts: one number that tells two faces of one corner set apart: the corner across the least one.
use Rattle.std.specs.Prelude.{cond, List, ℕ, leb, ltb}
use Rattle.soundness.specs.Sound.{corner}

abbrev pub lesser : ℕ → ℕ → ℕ
lesser a b = cond (leb a b) a b

abbrev pub greater : ℕ → ℕ → ℕ
greater a b = cond (leb a b) b a

-- In going round, corner 2 is across corner 0 and corner 3 across corner 1: of the pair that holds the least corner, the other.
unfoldable pub across : List ℕ → ℕ
across f =
    cond (ltb (lesser (corner f 0) (corner f 2)) (lesser (corner f 1) (corner f 3)))
    (greater (corner f 0) (corner f 2))
    (greater (corner f 1) (corner f 3))
