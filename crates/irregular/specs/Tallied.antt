-- Words of inner contracts: two numbers for each vertex of a window, from vertex `first` on: at place v of `ranks` how far the rank of
-- vertex first + v is below 3, and at the same place of other numbers its valence.
use Rattle.std.specs.Prelude.{◌≡◌, Bool, not, cond, List, ℕ, ◌+◌, ◌/◌, ◌^◌, ◌<◌, length, get_or, eqb}
use Rattle.rules.specs.Lists.{has}
use Rattle.rules.specs.Mesh.{Mesh}
use Rattle.irregular.specs.Times.{times}

-- each corner of a table is counted where its vertex is in the window and has that rank, and all else is as it was
pub record Tallied (first rank : ℕ) (ranks table old new : List ℕ) : Type 0 where
  pub kept : length new ≡ length old
  pub counts : (v : ℕ) → v < length ranks → get_or new v 0 ≡ get_or old v 0 + cond (eqb rank (get_or ranks v 0)) (times (first + v) table) 0

-- of a rank's mark and a valence: it is other than 2 to the power of the rank
abbrev pub unusual : ℕ × ℕ → Bool
unusual p = not (eqb p.1 (8 / 2 ^ p.0))

-- how far the rank of v is below 3: each lower dimension in which it is named counts more than the last
abbrev pub depth : Mesh → ℕ → ℕ
depth m v = cond (has v m.points) 3 (cond (has v m.segments) 2 (cond (has v m.quads) 1 0))

-- each vertex has its rank
pub record Ranked (first : ℕ) (m : Mesh) (ranks : List ℕ) : Type 0 where
  pub at : (v : ℕ) → v < length ranks → get_or ranks v 0 ≡ depth m (first + v)

-- how often v is named in the table of its rank
abbrev pub valence_at : ℕ → Mesh → ℕ → ℕ
valence_at rank m v =
    cond (eqb 0 rank) (times v m.hexes) 0 + cond (eqb 1 rank) (times v m.quads) 0 + cond (eqb 2 rank) (times v m.segments) 0 + cond (eqb 3 rank) (times v m.points) 0

-- the corners of all tables are counted
pub record Counted (first : ℕ) (m : Mesh) (ranks valences : List ℕ) : Type 0 where
  pub kept : length valences ≡ length ranks
  pub counts : (v : ℕ) → v < length ranks → get_or valences v 0 ≡ valence_at (get_or ranks v 0) m (first + v)
