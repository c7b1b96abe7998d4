-- Section 3: one division over the coordinates of one axis, rounded down, and its remainder.
use Rattle.std.specs.Prelude.{List, [], ◌∷◌, ℕ, suc, ◌-◌, ◌/◌, ◌%◌, get_or, ℤ, pos, negsuc, ◌+ℤ◌, ◌*ℤ◌}

-- ---- division of whole numbers

-- division rounded toward minus infinity: -(a + 1) by d is -(a / d + 1) (rule 3.6)
unfoldable pub floor_div : ℤ → ℕ → ℤ
floor_div (pos a) d = pos (a / d)
floor_div (negsuc a) d = negsuc (a / d)

-- what that division leaves, at least 0 and below d (rule 3.6)
unfoldable pub floor_mod : ℤ → ℕ → ℕ
floor_mod (pos a) d = a % d
floor_mod (negsuc a) d = d - suc (a % d)

-- ---- a mean

-- a vertex of the mesh before the round, and how many eighths of it are summed (rule 3.4)
pub record Draw : Type 0 where
  pub vertex : ℕ
  pub weight : ℕ

-- what a fine vertex draws on, and the divisor (rules 3.4 and 3.5)
pub record Mean : Type 0 where
  pub draws : List Draw
  pub divisor : ℕ

-- a round: the mean of each fine vertex, by its number (rule 3.7)
abbrev pub Round : Type 0
Round = List Mean

-- past the last vertex there is no mean; this stands there
abbrev pub no_mean : Mean
no_mean = record { draws = []; divisor = 1 }

abbrev pub mean_of : Round → ℕ → Mean
mean_of r v = get_or r v no_mean

-- the coordinate of vertex v among those of one axis (rule 1.2)
abbrev pub coordinate : List ℤ → ℕ → ℤ
coordinate xs v = get_or xs v (pos 0)

-- the weighted sum of what f gives at the vertices drawn on (rule 3.4)
abbrev pub total : List Draw → (ℕ → ℤ) → ℤ
total [] f = pos 0
total (t ∷ ts) f = pos t.weight *ℤ f t.vertex +ℤ total ts f

-- the fine coordinate: the one division, rounded down once (rule 3.6)
abbrev pub rounded : List ℤ → Mean → ℤ
rounded xs m = floor_div (total m.draws (coordinate xs)) m.divisor

-- the remainder of that division (rule 3.6)
abbrev pub remainder : List ℤ → Mean → ℕ
remainder xs m = floor_mod (total m.draws (coordinate xs)) m.divisor
