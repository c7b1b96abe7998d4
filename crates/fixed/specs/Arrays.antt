-- Words of inner contracts: what the arrays of the fixed sizes hold.
use Rattle.std.specs.Prelude.{pos, replicate}
use Rattle.rules.specs.Mesh.{Mesh}
use Rattle.fixed.specs.declared.arrays.Arrays.{Arrays}

abbrev pub mesh_of_arrays : Arrays → Mesh
mesh_of_arrays a = record { vertices = a.vertices; hexes = a.hexes; quads = a.quads; segments = a.segments; points = a.points }

-- 1,000 vertices and 256 cells of each kind, each number 0
abbrev pub cleared_arrays : Arrays
cleared_arrays = record { vertices = replicate 3_000 (pos 0); hexes = replicate 2_048 0; quads = replicate 1_024 0; segments = replicate 512 0; points = replicate 256 0 }
