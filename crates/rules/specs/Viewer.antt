-- Calls on stored meshes, with tables of fixed sizes: numbers and bytes in, one number out (rules 9.15 to 9.17).
use Rattle.std.specs.Prelude.{List, ℕ, zero, suc, ◌*◌, length, ℤ, pos, negsuc}
use Rattle.rules.specs.declared.Counts.{Counts}
use Rattle.rules.specs.Mesh.{topology}
use Rattle.rules.specs.Averaging.{refined}
use Rattle.rules.specs.Refusals.{mesh_checks}
use Rattle.rules.specs.EntryPoints.{Lent, result_buffer, refining_refusal, irregular_count}
use Rattle.rules.specs.StoredForm.{reading_refusal, stored_mesh, writing_refusal, stored_form}

-- the fixed sizes (rule 9.15)
abbrev pub fixed_counts : Counts
fixed_counts = record { vertices = 1_000; hexes = 256; quads = 256; segments = 256; points = 256 }

-- what refining is lent: tables of those sizes, 8 and 3 working numbers a vertex (rule 9.15)
abbrev pub fixed_lent : Lent
fixed_lent = record { output = fixed_counts; working = fixed_counts; words = 8 * 1_000; longs = 3 * 1_000 }

-- what the later checks say of the mesh that was read, and else reading's refusal (rule 6.2)
abbrev pub and_then : ℕ → ℕ → ℕ
and_then zero later = later
and_then (suc n) later = suc n

-- reading's checks, then refining's, with tables of the fixed sizes (rules 9.16 and 10.2)
unfoldable pub stored_refining_refusal : List ℕ → ℕ → ℕ
stored_refining_refusal s rounds =
    and_then (reading_refusal s fixed_counts) (refining_refusal (stored_mesh s) rounds fixed_lent)

-- a count, or minus the refusal number (rule 9.15)
abbrev pub signed : ℕ → ℕ → ℤ
signed zero count = pos count
signed (suc n) count = negsuc n

-- ---- refining

-- reading's checks, then refining's, then writing's (rule 9.16)
unfoldable pub viewer_refusal : List ℕ → ℕ → ℕ → ℕ
viewer_refusal s rounds lent =
    and_then (stored_refining_refusal s rounds) (writing_refusal (refined rounds (stored_mesh s)) lent)

-- writing's count of bytes (rule 9.16)
unfoldable pub viewer_answer : List ℕ → ℕ → List ℕ → ℤ
viewer_answer s rounds buffer =
    signed (viewer_refusal s rounds (length buffer)) (length (stored_form (refined rounds (stored_mesh s))))

-- the finished stored mesh at the front of the buffer (rule 9.16)
unfoldable pub viewer_output : List ℕ → ℕ → List ℕ → List ℕ
viewer_output s rounds buffer =
    result_buffer (viewer_refusal s rounds (length buffer)) buffer (stored_form (refined rounds (stored_mesh s)))

-- ---- the irregular count of a stored mesh

-- the irregular count of a stored mesh (rule 9.17)
unfoldable pub viewer_irregular_count : List ℕ → ℤ
viewer_irregular_count s =
    signed (and_then (reading_refusal s fixed_counts) (mesh_checks (stored_mesh s) 0)) (irregular_count (topology (stored_mesh s)))
