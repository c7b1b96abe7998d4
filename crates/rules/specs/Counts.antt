-- Section 5: the counts of a round, the finished counts and the ranges.
use Rattle.std.specs.Prelude.{Bool, ◌||◌, ℕ, zero, suc, ◌+◌, ◌*◌, ◌/◌, length, ltb, eqb}
use Rattle.rules.specs.declared.Counts.{Counts}
use Rattle.rules.specs.declared.Sizes.{Sizes}
use Rattle.rules.specs.Mesh.{Mesh, hex, quad, segment, point, corners, Topology}
use Rattle.rules.specs.Split.{edges, faces}

-- the seven sizes of a mesh; an edge or face shared by several cells counts once (rule 5.1)
unfoldable pub sizes : Topology → Sizes
sizes t = record {
  vertices = t.vertex_count;
  edges = length (edges t);
  faces = length (faces t);
  hexes = length t.hexes;
  quads = length t.quads;
  segments = length t.segments;
  points = length t.points;
}

-- the sizes after a round (rule 5.2)
unfoldable pub next_sizes : Sizes → Sizes
next_sizes s = record {
  vertices = s.vertices + (s.edges + (s.faces + s.hexes));
  edges = 2 * s.edges + (4 * s.faces + 6 * s.hexes);
  faces = 4 * s.faces + 12 * s.hexes;
  hexes = 8 * s.hexes;
  quads = 4 * s.quads;
  segments = 2 * s.segments;
  points = s.points;
}

-- the sizes after n rounds (rule 5.3)
unfoldable pub sizes_after : ℕ → Sizes → Sizes
sizes_after zero s = s
sizes_after (suc n) s = sizes_after n (next_sizes s)

-- ---- the five counts

-- the counts of a mesh's tables; of lent tables, how many places they have (rules 5.4 and 6.7)
unfoldable pub counts_of : Mesh → Counts
counts_of m = record {
  vertices = length m.vertices / 3;
  hexes = length m.hexes / corners hex;
  quads = length m.quads / corners quad;
  segments = length m.segments / corners segment;
  points = length m.points / corners point;
}

-- the five counts among the sizes (rule 5.3)
unfoldable pub counts_in : Sizes → Counts
counts_in s = record { vertices = s.vertices; hexes = s.hexes; quads = s.quads; segments = s.segments; points = s.points }

-- the finished counts, known before any round (rule 5.3)
unfoldable pub finished_counts : ℕ → Topology → Counts
finished_counts n t = counts_in (sizes_after n (sizes t))

-- a refusal's zero counts (rule 6.3)
abbrev pub no_counts : Counts
no_counts = record { vertices = 0; hexes = 0; quads = 0; segments = 0; points = 0 }

-- five counts are out of range (rules 1.4 and 5.5)
unfoldable pub out_of_range : Counts → Bool
out_of_range c =
    eqb c.vertices 0
    || (ltb 1_000_000 c.vertices
    || (ltb 250_000 c.hexes
    || (ltb 250_000 c.quads
    || (ltb 250_000 c.segments
    || ltb 250_000 c.points))))

-- some table has fewer places than are needed (rule 7.11)
unfoldable pub fewer : Counts → Counts → Bool
fewer lent needed =
    ltb lent.vertices needed.vertices
    || (ltb lent.hexes needed.hexes
    || (ltb lent.quads needed.quads
    || (ltb lent.segments needed.segments
    || ltb lent.points needed.points)))
