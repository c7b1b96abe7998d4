-- A mesh at the front of tables, copied to the front of others. Assumes nothing.
use mathlib.Core.Path.{◌≡◌}
use mathlib.Core.List.{List}
use Prim.Native.Nat.{ℕ, ◌*◌, ◌≤◌}
use lib.ListN.{length, take}
use Rattle.rules.specs.declared.Sizes.{Sizes}
use Rattle.rules.specs.Lists.{overwritten}
use Rattle.rules.specs.Mesh.{Mesh}
use Rattle.rules.specs.EntryPoints.{result_tables, front_of}
use Rattle.tables.proofs.Five.{same_mesh, part_fits, front_overwritten, length_overwritten}
use Rattle.rounds.specs.Front.{sized_front, Room}

-- tables that begin with a copy of the front of others begin with the same mesh, and keep their lengths
pub front_copied : (s : Sizes) (to tables : Mesh) → Room s tables → sized_front s (result_tables 0 to (sized_front s tables)) ≡ sized_front s tables
unfolding front_of result_tables
front_copied s to tables r =
    same_mesh (front_overwritten (3 * s.vertices) to.vertices tables.vertices r.vertices)
    (front_overwritten (8 * s.hexes) to.hexes tables.hexes r.hexes)
    (front_overwritten (4 * s.quads) to.quads tables.quads r.quads)
    (front_overwritten (2 * s.segments) to.segments tables.segments r.segments)
    (front_overwritten s.points to.points tables.points r.points)

pub room_copied : (s : Sizes) (to tables : Mesh) → Room s to → Room s (result_tables 0 to (sized_front s tables))
unfolding front_of result_tables
room_copied s to tables r = record {
  vertices = rw (kept (3 * s.vertices) to.vertices tables.vertices r.vertices) r.vertices;
  hexes = rw (kept (8 * s.hexes) to.hexes tables.hexes r.hexes) r.hexes;
  quads = rw (kept (4 * s.quads) to.quads tables.quads r.quads) r.quads;
  segments = rw (kept (2 * s.segments) to.segments tables.segments r.segments) r.segments;
  points = rw (kept s.points to.points tables.points r.points) r.points;
}
  where
    kept : {A : Type 0} (n : ℕ) (old xs : List A) → n ≤ length old → length (overwritten old (take n xs)) ≡ length old
    kept n old xs h = length_overwritten old (take n xs) (part_fits n xs old h)
