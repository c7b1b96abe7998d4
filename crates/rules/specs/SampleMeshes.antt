-- The meshes of the samples of section 11.
use Rattle.std.specs.Prelude.{cond, List, [], ◌∷◌, ◌++◌, map, ℕ, ◌*◌, replicate, ℤ, pos, negsuc}
use Rattle.std.specs.Int.Signed.{lt_z}
use Rattle.rules.specs.Lists.{up_from}
use Rattle.rules.specs.declared.Counts.{Counts}
use Rattle.rules.specs.Mesh.{Mesh, mesh, Topology, topology}
use Rattle.rules.specs.EntryPoints.{Lent}

-- coordinates on axis 1, with 0 on the others (section 11)
unfoldable pub line : List ℤ → List ℤ
line [] = []
line (x ∷ xs) = x ∷ pos 0 ∷ pos 0 ∷ line xs

-- segments and points on one axis (section 11)
unfoldable pub wire : List ℤ → List ℕ → List ℕ → Mesh
wire xs ss ps = mesh (line xs) [] [] ss ps

-- P1: one segment from 0 to 8 (rule 11.1)
unfoldable pub bar : Mesh
bar = wire (pos 0 ∷ pos 8 ∷ []) (0 ∷ 1 ∷ []) []

-- the corners of P7, and those above them (rules 11.7 and 11.8)
unfoldable pub square : List ℤ
square = pos 0 ∷ pos 0 ∷ pos 0 ∷ pos 8 ∷ pos 0 ∷ pos 0 ∷ pos 8 ∷ pos 8 ∷ pos 0 ∷ pos 0 ∷ pos 8 ∷ pos 0 ∷ []

unfoldable pub square8 : List ℤ
square8 = pos 0 ∷ pos 0 ∷ pos 8 ∷ pos 8 ∷ pos 0 ∷ pos 8 ∷ pos 8 ∷ pos 8 ∷ pos 8 ∷ pos 0 ∷ pos 8 ∷ pos 8 ∷ []

-- P8: the cube of side 8, with some quads (rule 11.8)
unfoldable pub cube : List ℕ → Mesh
cube qs = mesh (square ++ square8) (up_from 0 8) qs [] []

-- the six faces of the cube (rule 11.9)
unfoldable pub sides : List ℕ
sides = 0 ∷ 1 ∷ 2 ∷ 3 ∷ 4 ∷ 5 ∷ 6 ∷ 7 ∷ 0 ∷ 1 ∷ 5 ∷ 4 ∷ 1 ∷ 2 ∷ 6 ∷ 5 ∷ 2 ∷ 3 ∷ 7 ∷ 6 ∷ 3 ∷ 0 ∷ 4 ∷ 7 ∷ []

-- P12: 3 by 3 vertices, 4 quads, the 8 segments of the boundary, points at the corners (rule 11.12)
unfoldable pub grid : Mesh
grid =
    mesh
    (pos 0 ∷ pos 0 ∷ pos 0 ∷ pos 8 ∷ pos 0 ∷ pos 0 ∷ pos 16 ∷ pos 0 ∷ pos 0
    ∷ pos 0 ∷ pos 8 ∷ pos 0 ∷ pos 8 ∷ pos 8 ∷ pos 0 ∷ pos 16 ∷ pos 8 ∷ pos 0
    ∷ pos 0 ∷ pos 16 ∷ pos 0 ∷ pos 8 ∷ pos 16 ∷ pos 0 ∷ pos 16 ∷ pos 16 ∷ pos 0 ∷ [])
    []
    (0 ∷ 1 ∷ 4 ∷ 3 ∷ 3 ∷ 4 ∷ 7 ∷ 6 ∷ 1 ∷ 2 ∷ 5 ∷ 4 ∷ 4 ∷ 5 ∷ 8 ∷ 7 ∷ [])
    (0 ∷ 3 ∷ 3 ∷ 6 ∷ 0 ∷ 1 ∷ 1 ∷ 2 ∷ 2 ∷ 5 ∷ 5 ∷ 8 ∷ 6 ∷ 7 ∷ 7 ∷ 8 ∷ [])
    (0 ∷ 2 ∷ 6 ∷ 8 ∷ [])

-- n vertices at one place, in no cell (rule 11.11)
unfoldable pub dots : ℕ → Mesh
dots n = mesh (replicate (3 * n) (pos 0)) [] [] [] []

-- a hub: three hexes round one edge, from vertex 0 to vertex 7 (rule 11.14)
unfoldable pub hub : Mesh
hub =
    mesh
    (pos 0 ∷ pos 0 ∷ pos 0 ∷ pos 9 ∷ pos 0 ∷ pos 0 ∷ pos 7 ∷ pos 8 ∷ pos 0 ∷ negsuc 3 ∷ pos 7 ∷ pos 0
    ∷ negsuc 8 ∷ pos 1 ∷ pos 0 ∷ negsuc 4 ∷ negsuc 7 ∷ pos 0 ∷ pos 6 ∷ negsuc 6 ∷ pos 0
    ∷ pos 0 ∷ pos 0 ∷ pos 8 ∷ pos 9 ∷ pos 0 ∷ pos 9 ∷ pos 7 ∷ pos 8 ∷ pos 9 ∷ negsuc 3 ∷ pos 7 ∷ pos 9
    ∷ negsuc 8 ∷ pos 1 ∷ pos 9 ∷ negsuc 4 ∷ negsuc 7 ∷ pos 9 ∷ pos 6 ∷ negsuc 6 ∷ pos 9 ∷ [])
    (0 ∷ 1 ∷ 2 ∷ 3 ∷ 7 ∷ 8 ∷ 9 ∷ 10 ∷ 0 ∷ 3 ∷ 4 ∷ 5 ∷ 7 ∷ 10 ∷ 11 ∷ 12 ∷ 0 ∷ 5 ∷ 6 ∷ 1 ∷ 7 ∷ 12 ∷ 13 ∷ 8 ∷ [])
    [] [] []

-- a hex, a quad on its top, two segments and a point (rule 11.14)
unfoldable pub mixed : Mesh
mixed =
    mesh (square ++ (square8 ++ (pos 20 ∷ pos 3 ∷ negsuc 6 ∷ pos 21 ∷ negsuc 4 ∷ pos 4 ∷ [])))
    (up_from 0 8) (4 ∷ 5 ∷ 6 ∷ 7 ∷ []) (6 ∷ 8 ∷ 8 ∷ 9 ∷ []) (9 ∷ [])

-- P1's stored form: 36 bytes, with the bytes 0 and 35 given (rule 8.8)
unfoldable pub bar_bytes : ℕ → ℕ → List ℕ
bar_bytes first last = first ∷ 128 ∷ 0 ∷ 16 ∷ [] ++ (replicate 6 0 ++ (32 ∷ [] ++ (replicate 16 0 ++ (64 ∷ [] ++ (replicate 7 0 ++ (last ∷ []))))))

-- ---- at the ends of the range of coordinates

-- at the ends of the range of coordinates (rule 4.11)
unfoldable pub span : List ℕ → Mesh
span ps = wire (negsuc 536_870_911 ∷ pos 536_870_911 ∷ []) (0 ∷ 1 ∷ []) ps

-- the hub with every coordinate the least one
unfoldable pub low_hub : Mesh
low_hub = mesh (replicate 42 (negsuc 536_870_911)) hub.hexes [] [] []

-- the cube with its six faces as quads, from the least to the greatest coordinate on each axis
unfoldable pub wide_cube : Mesh
wide_cube = mesh (map (λ (z : ℤ). cond (lt_z (pos 0) z) (pos 536_870_911) (negsuc 536_870_911)) (cube []).vertices) (up_from 0 8) sides [] []

-- a file with 257 points at one vertex, one more than the fixed tables hold
unfoldable pub many_points : List ℕ
many_points = (16 ∷ 128 ∷ 0 ∷ 8 ∷ 0 ∷ 0 ∷ 0 ∷ 0 ∷ 0 ∷ 0 ∷ 0 ∷ 8 ∷ 8 ∷ []) ++ replicate 43 0

-- ---- for single definitions

-- a segment that no axis has in common with another
unfoldable pub slope : Mesh
slope = mesh (pos 0 ∷ pos 1 ∷ pos 2 ∷ pos 7 ∷ pos 9 ∷ negsuc 3 ∷ []) [] [] (0 ∷ 1 ∷ []) []

-- the cells of a quad with a segment along one of its sides, a segment at one of its corners and a point at another
unfoldable pub tent : Topology
tent = topology (mesh (replicate 15 (pos 0)) [] (0 ∷ 1 ∷ 2 ∷ 3 ∷ []) (1 ∷ 0 ∷ 3 ∷ 4 ∷ []) (2 ∷ []))

-- one hex, two quads, three segments and four points on two vertices: no mesh to refine, but one to store
unfoldable pub every_kind : Mesh
every_kind =
    mesh (pos 1 ∷ negsuc 1 ∷ pos 3 ∷ negsuc 3 ∷ pos 5 ∷ negsuc 536_870_911 ∷ []) (0 ∷ 1 ∷ 0 ∷ 1 ∷ 1 ∷ 0 ∷ 0 ∷ 1 ∷ [])
    (0 ∷ 0 ∷ 1 ∷ 0 ∷ 1 ∷ 1 ∷ 1 ∷ 0 ∷ []) (1 ∷ 0 ∷ 0 ∷ 0 ∷ 1 ∷ 1 ∷ []) (0 ∷ 1 ∷ 1 ∷ 0 ∷ [])

-- ---- lent memory

abbrev pub tally : (v h q s p : ℕ) → Counts
tally v h q s p = record { vertices = v; hexes = h; quads = q; segments = s; points = p }

abbrev pub lent : (output working : Counts) (words longs : ℕ) → Lent
lent output working words longs = record { output = output; working = working; words = words; longs = longs }

-- tables with places for one round of the bar, and a number more; with just these places; for two rounds; for every kind, with some to spare
unfoldable pub lent_tables : Mesh
lent_tables = mesh (replicate 10 (pos 7)) (9 ∷ []) (9 ∷ []) (replicate 5 9) (9 ∷ [])

unfoldable pub work_tables : Mesh
work_tables = mesh (replicate 9 (pos 3)) [] [] (replicate 4 4) []

unfoldable pub long_tables : Mesh
long_tables = mesh (replicate 16 (pos 7)) [] [] (replicate 9 9) []

unfoldable pub full_tables : Mesh
full_tables = mesh (replicate 9 (pos 7)) (replicate 16 9) (replicate 9 9) (replicate 7 9) (replicate 5 9)
