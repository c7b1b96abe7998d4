-- Words of inner contracts: what the checks before a round find: the refusal, or the sizes that the rounds start from and lead to.
use Rattle.std.specs.Prelude.{◌≡◌, ℕ, Result, Ok, Err}
use Rattle.rules.specs.declared.Refusal.{Refusal}
use Rattle.rules.specs.Mesh.{Mesh, topology}
use Rattle.rules.specs.Answers.{number_of}
use Rattle.rules.specs.Counts.{sizes, sizes_after}
use Rattle.rules.specs.EntryPoints.{round_checks}
use Rattle.plan.specs.declared.Growth.{Growth}

-- the sizes of a mesh that passes the checks
pub record Sized (m : Mesh) (rounds : ℕ) (p : Growth) : Type 0 where
  pub passes : round_checks m rounds 0 ≡ 0
  pub start : p.start ≡ sizes (topology m)
  pub finished : p.finished ≡ sizes_after rounds (sizes (topology m))

abbrev pub Planned : Mesh → ℕ → Result Growth Refusal → Type 0
Planned m rounds (Ok p) = Sized m rounds p
Planned m rounds (Err r) = number_of r ≡ round_checks m rounds 0
