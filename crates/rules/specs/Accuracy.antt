-- Section 4: the exact coordinates, what feeds a coordinate, the bounding box, and what holds of each written coordinate: the third property,
-- which refining promises of what it writes. Nothing exact passes through a rounded coordinate. Of a list of rounds the latest is first.
use Rattle.std.specs.Prelude.{◌≡◌, Bool, true, cond, ◌&&◌, List, [], ◌∷◌, map, ℕ, zero, suc, ◌*◌, ◌/◌, ◌%◌, length, get_or, replicate, ℤ, pos, ◌+ℤ◌, ◌*ℤ◌, ltb, eqb}
use Rattle.std.specs.Int.Signed.{lt_z, le_z}
use Rattle.rules.specs.Lists.{any, keep, concat, concat_map, up_from, has}
use Rattle.rules.specs.Mesh.{Mesh, Kind, kinds, dimension, Topology, topology, cells_of}
use Rattle.rules.specs.Split.{parts, children, split}
use Rattle.rules.specs.Means.{Mean, Round, mean_of, coordinate, total, remainder}
use Rattle.rules.specs.Averaging.{rank, means, axis, refined, split_times, rounds_of}

-- ---- the exact coordinates of one axis, as numerators over one divisor for all vertices

-- a common multiple of the divisors of a round: their product (rule 4.4)
unfoldable pub common : Round → ℕ
common [] = 1
common (m ∷ r) = m.divisor * common r

-- the one divisor of all exact coordinates after these rounds, the product of all (rule 4.4)
unfoldable pub exact_divisor : List Round → ℕ
exact_divisor [] = 1
exact_divisor (r ∷ past) = common r * exact_divisor past

-- a mean of numerators over q, as a numerator over k q, where k is a multiple of the mean's divisor (rule 4.2)
abbrev pub unrounded : ℕ → List ℤ → Mean → ℤ
unrounded k ns m = pos (k / m.divisor) *ℤ total m.draws (coordinate ns)

-- the numerators of the exact coordinates: the first mesh's, through the same rounds, with no mean rounded (rules 4.2 and 4.3)
unfoldable pub exact : List Round → List ℤ → List ℤ
exact [] xs = xs
exact (r ∷ past) xs = map (unrounded (common r) (exact past xs)) r

-- ---- what feeds a coordinate

-- the corners of the parents of the cells counted for a fine vertex: what it draws on (rule 4.5)
unfoldable pub draws_on : Topology → ℕ → List ℕ
draws_on t f =
    let numbered = parts t in
    let r = rank (split t) f in
    concat_map
    (λ (κ : Kind). concat (keep (λ (cell : List ℕ). eqb (dimension κ) r && any (has f) (children numbered κ cell)) (cells_of t κ)))
    kinds

-- a division: that of a vertex, in the round that comes after so many others (rule 4.6)
pub record Division : Type 0 where
  pub before : ℕ
  pub vertex : ℕ

-- the divisions that feed vertex v after some rounds: its own, and those that feed a vertex it draws on (rule 4.6)
unfoldable pub feeding : ℕ → Topology → ℕ → List Division
feeding zero t v = []
feeding (suc k) t v = record { before = k; vertex = v } ∷ concat_map (feeding k t) (draws_on (split_times k t) v)

-- what a division leaves on axis a, made on written coordinates (rule 4.8)
unfoldable pub left : Mesh → ℕ → Division → ℕ
left m a d =
    let coarse = refined d.before m in
    remainder (axis a coarse.vertices) (mean_of (means (topology coarse)) d.vertex)

-- some division that feeds the coordinate of vertex v on axis a leaves a remainder (rule 4.8)
unfoldable pub has_remainder : ℕ → Mesh → ℕ → ℕ → Bool
has_remainder k m a v = any (λ (d : Division). ltb 0 (left m a d)) (feeding k (topology m) v)

-- ---- the bounding box

-- the lesser and the greater of two, and of the coordinates x ∷ xs (rule 4.10)
abbrev pub lesser : ℤ → ℤ → ℤ
lesser a b = cond (lt_z a b) a b

abbrev pub greater : ℤ → ℤ → ℤ
greater a b = cond (lt_z a b) b a

-- the least and the greatest of the coordinates x ∷ xs
unfoldable pub least_of : ℤ → List ℤ → ℤ
least_of x [] = x
least_of x (y ∷ ys) = lesser x (least_of y ys)

unfoldable pub greatest_of : ℤ → List ℤ → ℤ
greatest_of x [] = x
greatest_of x (y ∷ ys) = greater x (greatest_of y ys)

-- the ends of the bounding box on an axis, both included (rule 4.10)
unfoldable pub least : List ℤ → ℤ
least [] = pos 0
least (x ∷ xs) = least_of x xs

unfoldable pub greatest : List ℤ → ℤ
greatest [] = pos 0
greatest (x ∷ xs) = greatest_of x xs

-- in the box, both ends included (rule 4.10)
abbrev pub in_box : List ℤ → ℤ → Bool
in_box xs w = le_z (least xs) w && le_z w (greatest xs)

-- ---- the third property

-- The exact coordinate e / q and the written one w, after k rounds: equal exactly where no remainder feeds it; otherwise the written one is
-- smaller, by less than k units. They are compared by cross-multiplying, with q above 0 (rules 4.4, 4.8 and 4.9).
unfoldable pub accurate : Bool → ℕ → ℤ → ℕ → ℤ → Bool
accurate fed k e q w =
    ltb 0 q
    && cond fed
    (lt_z (pos q *ℤ w) e && lt_z e (pos q *ℤ (w +ℤ pos k)))
    (le_z (pos q *ℤ w) e && le_z e (pos q *ℤ w))

-- w, for the coordinate of vertex v on axis a after k rounds of the first mesh m: accurate, and in the box (rules 4.7 and 4.10)
unfoldable pub accurate_at : ℕ → Mesh → ℕ → ℕ → ℤ → Bool
accurate_at k m a v w =
    let rs = rounds_of k (topology m) in
    let xs = axis a m.vertices in
    accurate (has_remainder k m a v) k (coordinate (exact rs xs) v) (exact_divisor rs) w && in_box xs w

-- `table` is a table of vertices after k rounds of the first mesh m: one truth value for each coordinate in it (rule 4.7)
unfoldable pub accuracies : ℕ → Mesh → List ℤ → List Bool
accuracies k m table = map (λ (p : ℕ). accurate_at k m (p % 3) (p / 3) (get_or table p (pos 0))) (up_from 0 (length table))

-- the third property: each of them is true (rule 4.7)
abbrev pub Property3 : ℕ → Mesh → List ℤ → Type 0
Property3 k m table = accuracies k m table ≡ replicate (length table) true
