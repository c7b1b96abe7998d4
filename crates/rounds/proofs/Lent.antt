-- Tables and working numbers that stay the ones that were lent, and their lengths. Assumes nothing.
use Rattle.tables.specs.declared.LentTables.{LentTables}
use Rattle.tables.specs.Lent.{SameSlices, mesh_at}
use Rattle.tables.proofs.Slices.{same_slice, still_same}
use Rattle.rounds.specs.declared.working.WorkingNumbers.{WorkingNumbers}
use Rattle.rounds.specs.Working.{SameNumbers}
use Rattle.rounds.proofs.Turns.{SameLengths, SameCounts}

pub same_lent : (t : LentTables) → SameSlices t t
same_lent t = record { vertices = same_slice t.vertices; hexes = same_slice t.hexes; quads = same_slice t.quads; segments = same_slice t.segments; points = same_slice t.points }

pub still_lent : {a b c : LentTables} → SameSlices a b → SameSlices b c → SameSlices a c
still_lent p q = record {
  vertices = still_same p.vertices q.vertices;
  hexes = still_same p.hexes q.hexes;
  quads = still_same p.quads q.quads;
  segments = still_same p.segments q.segments;
  points = still_same p.points q.points;
}

pub lengths_kept : {a b : LentTables} → SameSlices a b → SameLengths (mesh_at a) (mesh_at b)
lengths_kept p = record {
  vertices = p.vertices.long;
  hexes = p.hexes.long;
  quads = p.quads.long;
  segments = p.segments.long;
  points = p.points.long;
}

pub same_numbers : (n : WorkingNumbers) → SameNumbers n n
same_numbers n = record { words = same_slice n.words; longs = same_slice n.longs }

pub numbers_still_lent : {a b c : WorkingNumbers} → SameNumbers a b → SameNumbers b c → SameNumbers a c
numbers_still_lent p q = record { words = still_same p.words q.words; longs = still_same p.longs q.longs }

pub counts_kept : {a b : WorkingNumbers} → SameNumbers a b → SameCounts a b
counts_kept p = record { words = p.words.long; longs = p.longs.long }
