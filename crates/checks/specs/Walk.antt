-- Words of inner contracts: the parts that the walk of a mesh meets, table by table, in words of the rules.
use Rattle.std.specs.Prelude.{◌≡◌, List, map, ℕ, length}
use Rattle.rules.specs.Lists.{concat_map, cut, key_of, distinct}
use Rattle.rules.specs.Mesh.{Kind, corners, topology, places}
use Rattle.rules.specs.Split.{corners_at, met}
use Rattle.numbering.specs.declared.parts.Parts.{Parts}
use Rattle.numbering.specs.Parts.{kind_of, dimension_of}
use Rattle.tables.specs.declared.MeshTables.{MeshTables}
use Rattle.tables.specs.Lent.{mesh_in}
use Rattle.checks.specs.declared.parts.Part.{Part}
use Rattle.checks.specs.declared.parts.Part.TheVariants.{Edge, Face}

-- the parts of dimension d of the cells of one table
unfoldable pub parts_of : Kind → ℕ → List ℕ → List (List ℕ)
parts_of κ d table = concat_map (λ (cell : List ℕ). map (corners_at cell) (places κ d)) (cut (corners κ) table)

-- the same by the numbering's names
abbrev pub parts_in : Parts → List ℕ → List (List ℕ)
parts_in of table = parts_of (kind_of of) (dimension_of of) table

-- ---- edges and faces

abbrev pub dimension : Part → ℕ
dimension Edge = 1
dimension Face = 2

-- how many corners one has
abbrev pub size_of : Part → ℕ
size_of Edge = 2
size_of Face = 4

-- the numbering's name for those of one kind of cells
pub record Named (of : Part) (κ : Kind) (parts : Parts) : Type 0 where
  pub kind : kind_of parts ≡ κ
  pub dim : dimension_of parts ≡ dimension of

-- those of a mesh, and how many different ones
abbrev pub parts_met : Part → MeshTables → List (List ℕ)
parts_met of t = met (topology (mesh_in t)) (dimension of)

abbrev pub parts_counted : Part → MeshTables → ℕ
parts_counted of t = length (distinct (map key_of (parts_met of t)))
