-- A mesh at the front of tables that it was stored in. Assumes nothing.
use mathlib.Core.Path.{◌≡◌}
use mathlib.Core.List.{List}
use Prim.Native.Nat.{ℕ, ◌*◌, ◌≤◌}
use native.Mathlib.Omega.{arith}
use lib.ListN.{length, drop, length-append}
use Rattle.rules.specs.Lists.{overwritten}
use Rattle.rules.specs.Mesh.{Mesh}
use Rattle.rules.specs.EntryPoints.{result_tables, front_of, front}
use Rattle.rules.specs.StoredForm.{Header}
use Rattle.stored.proofs.Form.{Sized}
use Rattle.rounds.proofs.Turns.{begins}
use Rattle.tables.specs.Lent.{Room}

module _ {A : Type 0} where
  holds : (n : ℕ) (old new : List A) → length new ≡ n → n ≤ length (overwritten old new)
  unfolding overwritten
  holds n old new h = omega (arith, length-append new (drop (length new) old))

-- a mesh of the lengths that a header gives
module _ (h : Header) (old m : Mesh) (z : Sized h m) where
  pub front_result : front h.counts (result_tables 0 old m) ≡ m
  unfolding front_of result_tables
  front_result = rw (
    begins (3 * h.counts.vertices) old.vertices m.vertices z.vertices,
    begins (8 * h.counts.hexes) old.hexes m.hexes z.hexes,
    begins (4 * h.counts.quads) old.quads m.quads z.quads,
    begins (2 * h.counts.segments) old.segments m.segments z.segments,
    begins h.counts.points old.points m.points z.points,
  )

  pub room_result : Room h.counts (result_tables 0 old m)
  unfolding result_tables
  room_result = record {
    vertices = holds (3 * h.counts.vertices) old.vertices m.vertices z.vertices;
    hexes = holds (8 * h.counts.hexes) old.hexes m.hexes z.hexes;
    quads = holds (4 * h.counts.quads) old.quads m.quads z.quads;
    segments = holds (2 * h.counts.segments) old.segments m.segments z.segments;
    points = holds h.counts.points old.points m.points z.points;
  }
