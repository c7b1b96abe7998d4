-- Words of inner contracts: what splitting a mesh asks of its caller.
use Rattle.std.specs.Prelude.{◌≡◌, ℕ, ◌+◌, ◌*◌, ◌/◌, ◌^◌, ◌≤◌, ◌<◌, length}
use Rattle.rules.specs.Mesh.{Mesh, topology}
use Rattle.rules.specs.Split.{edges, faces}
use Rattle.soundness.specs.Sound.{Sound}
use Rattle.numbering.specs.Table.{words_for}

-- how many words the tables of E edges and F faces take
abbrev pub table_words : ℕ → ℕ → ℕ
table_words e f = words_for 2 e + words_for 4 f

-- the mesh is sound and has e edges and f faces; there are words for their tables; all numbers have 32 bits
pub record Ready (m : Mesh) (e f words : ℕ) : Type 0 where
  pub sound : Sound (topology m)
  pub edges_are : e ≡ length (edges (topology m))
  pub faces_are : f ≡ length (faces (topology m))
  pub words_fit : table_words e f ≤ words
  pub vertices_few : length m.vertices / 3 + (e + (f + length m.hexes / 8)) + 1 < 2 ^ 32
  pub quads_few : length m.quads / 4 < 2 ^ 32
  pub segments_few : length m.segments / 2 < 2 ^ 32

-- the tables of the children have places for them
pub record Places (m : Mesh) (hexes quads segments points : ℕ) : Type 0 where
  pub hexes_fit : 64 * (length m.hexes / 8) ≤ hexes
  pub quads_fit : 16 * (length m.quads / 4) ≤ quads
  pub segments_fit : 4 * (length m.segments / 2) ≤ segments
  pub points_fit : length m.points ≤ points
