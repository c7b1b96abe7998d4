-- The mesh that five slices hold, lent for reading or for writing.
use Rattle.std.specs.Prelude.{◌≡◌, ◌≤◌, ◌*◌, List, length}
use Rattle.std.specs.Borrow.{MutBor}
use Rattle.rules.specs.declared.Counts.{Counts}
use Rattle.rules.specs.Mesh.{Mesh}
use Rattle.tables.specs.declared.MeshTables.{MeshTables}
use Rattle.tables.specs.declared.LentTables.{LentTables}

-- the mesh in tables that are only read
abbrev pub mesh_in : MeshTables → Mesh
mesh_in t = record { vertices = t.vertices.now; hexes = t.hexes.now; quads = t.quads.now; segments = t.segments.now; points = t.points.now }

-- what tables hold that are written
abbrev pub mesh_at : LentTables → Mesh
mesh_at t = record { vertices = t.vertices.now; hexes = t.hexes.now; quads = t.quads.now; segments = t.segments.now; points = t.points.now }

-- a call returns the very slice that it was lent, so that its owner sees what was stored
pub record SameSlice {A : Type 0} (old new : MutBor (List A)) : Type 0 where
  pub name : new.ghost_name ≡ old.ghost_name
  pub long : length new.now ≡ length old.now

pub record SameSlices (old new : LentTables) : Type 0 where
  pub vertices : SameSlice old.vertices new.vertices
  pub hexes : SameSlice old.hexes new.hexes
  pub quads : SameSlice old.quads new.quads
  pub segments : SameSlice old.segments new.segments
  pub points : SameSlice old.points new.points

-- each table of a mesh is no longer than the lent one
pub record Fits (m lent : Mesh) : Type 0 where
  pub vertices : length m.vertices ≤ length lent.vertices
  pub hexes : length m.hexes ≤ length lent.hexes
  pub quads : length m.quads ≤ length lent.quads
  pub segments : length m.segments ≤ length lent.segments
  pub points : length m.points ≤ length lent.points

-- tables have room for so many entries
pub record Room (c : Counts) (m : Mesh) : Type 0 where
  pub vertices : 3 * c.vertices ≤ length m.vertices
  pub hexes : 8 * c.hexes ≤ length m.hexes
  pub quads : 4 * c.quads ≤ length m.quads
  pub segments : 2 * c.segments ≤ length m.segments
  pub points : c.points ≤ length m.points
