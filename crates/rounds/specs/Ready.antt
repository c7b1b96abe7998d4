-- Words of inner contracts: what a round needs: a mesh that passed the checks, its sizes, and room for what it becomes.
use Rattle.std.specs.Prelude.{◌≡◌, false, List, ℕ, ◌*◌, ◌≤◌, length}
use Rattle.rules.specs.declared.Sizes.{Sizes}
use Rattle.rules.specs.Mesh.{Mesh, topology}
use Rattle.rules.specs.Counts.{sizes, next_sizes, sizes_after, counts_in, out_of_range}
use Rattle.rules.specs.Refusals.{too_large}
use Rattle.soundness.specs.Accepted.{Accepted}
use Rattle.rounds.specs.declared.working.WorkingNumbers.{WorkingNumbers}
use Rattle.rounds.specs.Front.{Room}

pub record Ready (m : Mesh) (s : Sizes) (out : Mesh) (words longs : List ℕ) : Type 0 where
  pub accepted : Accepted m
  pub sized : s ≡ sizes (topology m)
  -- the mesh after the round is in the ranges
  pub small : out_of_range (counts_in (next_sizes s)) ≡ false
  -- the output tables have places for it, and there are 8 words and 3 longs a vertex of it
  pub room : Room (next_sizes s) out
  pub enough_words : 8 * (next_sizes s).vertices ≤ length words
  pub enough_longs : 3 * (next_sizes s).vertices ≤ length longs

-- What some rounds need: a mesh that passed the checks, its sizes, and room for the finished mesh.
pub record ReadyFor (rounds : ℕ) (m : Mesh) (s : Sizes) (out work : Mesh) (numbers : WorkingNumbers) : Type 0 where
  pub accepted : Accepted m
  pub sized : s ≡ sizes (topology m)
  pub small : too_large rounds (topology m) ≡ false
  pub room : Room (sizes_after rounds s) out
  pub working_room : Room (sizes_after rounds s) work
  pub enough_words : 8 * (sizes_after rounds s).vertices ≤ length numbers.words.now
  pub enough_longs : 3 * (sizes_after rounds s).vertices ≤ length numbers.longs.now
