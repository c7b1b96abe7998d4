-- Words of inner contracts: what is kept for each fine vertex while the cells are passed, in rising dimension. It is the rank, the valence
-- and, for each axis, the sum of the split positions of all corners of the counted cells.
use Rattle.std.specs.Prelude.{◌≡◌, cond, [], ℕ, zero, suc, ◌+◌, ◌*◌, ◌≤◌, ◌<◌, ◌^◌, length, get_or, leb, eqb}
use Rattle.averaging.specs.declared.tallies.Tallies.{Tallies}

-- on one axis
pub record Tally : Type 0 where
  pub rank : ℕ
  pub valence : ℕ
  pub sum : ℕ

-- the tally of vertex f on axis a
abbrev pub tally_at : Tallies → ℕ → ℕ → Tally
tally_at t a f = record { rank = get_or (get_or t.ranks.now f []) 0 0; valence = get_or (get_or t.ranks.now f []) 1 0; sum = get_or (get_or t.totals.now f []) a 0 }

-- before any cell: the rank is the highest, that of a hex
abbrev pub nothing : Tally
nothing = record { rank = 3; valence = 0; sum = 0 }

-- One more cell of dimension d that holds the vertex. Since dimensions rise, a rank below d was given by a cell of a lower dimension, which
-- is what counts; any other rank is d or that of no cell at all.
unfoldable pub counting : ℕ → ℕ → Tally → Tally
counting d s t = cond (leb d t.rank) (record { rank = d; valence = t.valence + 1; sum = t.sum + s }) t

-- ---- several vertices: a step gives for each vertex its tally anew

-- the steps 0, 1, .. n - 1, one after another
unfoldable pub repeat : ℕ → (ℕ → ℕ → Tally → Tally) → ℕ → Tally → Tally
repeat zero step f t = t
repeat (suc n) step f t = step n f (repeat n step f t)

-- vertex g is a corner of a cell of dimension d, whose corners' positions sum to s
unfoldable pub corner_step : ℕ → ℕ → ℕ → ℕ → Tally → Tally
corner_step d s g f t = cond (eqb f g) (counting d s t) t

-- ---- room

-- k more cells can be counted: a cell adds less than 2 ^ 41 to a sum, and 2 ^ 22 cells less than 2 ^ 63
pub record Room (k : ℕ) (t : Tally) : Type 0 where
  pub few : t.valence + k ≤ 2 ^ 22
  pub small : t.sum ≤ t.valence * 2 ^ 41

-- k more cells can be counted for each vertex
pub record Spare (k : ℕ) (t : Tallies) : Type 0 where
  pub same : length t.totals.now ≡ length t.ranks.now
  pub room : (a f : ℕ) → a < 3 → f < length t.ranks.now → Room k (tally_at t a f)

-- a step counts at most k cells
abbrev pub Within : ℕ → (Tally → Tally) → Type 0
Within k step = (m : ℕ) (t : Tally) → Room (k + m) t → Room m (step t)

-- The tallies were changed by a step on each axis that counts at most k cells for a vertex.
pub record Tallied (k : ℕ) (step : ℕ → ℕ → Tally → Tally) (t t' : Tallies) : Type 0 where
  pub ranks_kept : length t'.ranks.now ≡ length t.ranks.now
  pub totals_kept : length t'.totals.now ≡ length t.totals.now
  pub each : (a f : ℕ) → a < 3 → tally_at t' a f ≡ step a f (tally_at t a f)
  pub within : (a f : ℕ) → a < 3 → Within k (step a f)
