-- Words of inner contracts: what the checks of a mesh find, and check 7 of its faces (rules 7.1 to 7.8 of docs/SPECIFICATION.md).
use Rattle.std.specs.Prelude.{◌≡◌, Result, Ok, Err, true, false, ℕ, length}
use Rattle.rules.specs.declared.Refusal.{Refusal}
use Rattle.rules.specs.declared.Refusal.TheVariants.{MismatchedFace}
use Rattle.rules.specs.Answers.{number_of}
use Rattle.rules.specs.Mesh.{Mesh, topology}
use Rattle.rules.specs.Split.{faces}
use Rattle.rules.specs.Refusals.{mismatched_face, mesh_checks}

-- check 7, which counts the faces
abbrev pub FacesChecked : Mesh → Result ℕ Refusal → Type 0
FacesChecked m (Ok n) = (mismatched_face (topology m) ≡ false) × (n ≡ length (faces (topology m)))
FacesChecked m (Err r) = (mismatched_face (topology m) ≡ true) × (r ≡ MismatchedFace)

-- checks 1 to 8, and the faces of a mesh that passes them
abbrev pub MeshChecked : Mesh → Result ℕ Refusal → Type 0
MeshChecked m (Ok n) = (mesh_checks m 0 ≡ 0) × (n ≡ length (faces (topology m)))
MeshChecked m (Err r) = number_of r ≡ mesh_checks m 0
