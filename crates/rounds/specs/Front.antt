-- Words of inner contracts: the mesh of some sizes at the front of tables that are longer than it, and room for it.
use Rattle.std.specs.Prelude.{ℕ, ◌*◌, ◌≤◌, length}
use Rattle.rules.specs.declared.Sizes.{Sizes}
use Rattle.rules.specs.Mesh.{Mesh}
use Rattle.rules.specs.EntryPoints.{front_of}

abbrev pub sized_front : Sizes → Mesh → Mesh
sized_front s = front_of s.vertices s.hexes s.quads s.segments s.points

-- the tables have places for so many
pub record RoomFor (v h q s p : ℕ) (tables : Mesh) : Type 0 where
  pub vertices : 3 * v ≤ length tables.vertices
  pub hexes : 8 * h ≤ length tables.hexes
  pub quads : 4 * q ≤ length tables.quads
  pub segments : 2 * s ≤ length tables.segments
  pub points : p ≤ length tables.points

abbrev pub Room : Sizes → Mesh → Type 0
Room s = RoomFor s.vertices s.hexes s.quads s.segments s.points
