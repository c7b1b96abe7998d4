-- Section 10: what the listing program prints, as bytes, for what it reads from standard input.
use Rattle.std.specs.Prelude.{cond, List, [], ◌∷◌, ◌++◌, map, ℕ, zero, suc, ◌+◌, ◌*◌, ◌/◌, ◌%◌, length, get_or, drop, ℤ, pos, negsuc, ltb, eqb}
use Rattle.rules.specs.declared.Counts.{Counts}
use Rattle.rules.specs.Lists.{concat_map, up_from}
use Rattle.rules.specs.Text.{text}
use Rattle.rules.specs.Mesh.{Mesh, Topology, topology}
use Rattle.rules.specs.Averaging.{rank, valence, refined}
use Rattle.rules.specs.Counts.{counts_of}
use Rattle.rules.specs.Refusals.{check}
use Rattle.rules.specs.StoredForm.{stored_mesh}
use Rattle.rules.specs.Viewer.{stored_refining_refusal}

-- ---- numbers, fields and lines

-- the decimal digits of n as bytes: 48 is the digit 0; a number n has at most n + 1 (rule 10.3)
unfoldable pub decimal_in : ℕ → ℕ → List ℕ
decimal_in zero n = []
decimal_in (suc k) n = let r = decimal_in k (n / 10) in cond (ltb n 10) ((48 + n) ∷ []) (r ++ ((48 + n % 10) ∷ []))

-- a number n has at most n + 1
unfoldable pub decimal : ℕ → List ℕ
decimal n = decimal_in (suc n) n

-- below zero behind a minus sign (rule 10.3)
unfoldable pub signed_decimal : ℤ → List ℕ
signed_decimal (pos n) = decimal n
signed_decimal (negsuc n) = text "-" ++ decimal (suc n)

-- the fields of a line, each behind a space, and the line feed (rule 10.3)
unfoldable pub fields : List (List ℕ) → List ℕ
fields [] = text "\n"
fields (f ∷ fs) = text " " ++ (f ++ fields fs)

-- a line: its first word, and the fields (rule 10.3)
unfoldable pub line : List ℕ → List (List ℕ) → List ℕ
line word fs = word ++ fields fs

-- ---- the lines

-- what is printed on refusal (rule 10.4)
unfoldable pub refused_line : ℕ → List ℕ
refused_line n = line (text "refused") (decimal n ∷ [])

-- the first line: the five counts (rule 10.5)
unfoldable pub mesh_line : Counts → List ℕ
mesh_line c =
    line (text "mesh")
    (map decimal (c.vertices ∷ c.hexes ∷ c.quads ∷ c.segments ∷ c.points ∷ []))

-- a vertex: number, coordinates, rank and valence (rule 10.5)
unfoldable pub vertex_line : Mesh → Topology → ℕ → List ℕ
vertex_line m t v =
    let at : ℕ → List ℕ = λ a. signed_decimal (get_or m.vertices (3 * v + a) (pos 0)) in
    line (text "v") (decimal v ∷ at 0 ∷ at 1 ∷ at 2 ∷ decimal (rank t v) ∷ decimal (valence t v) ∷ [])

-- the corners of each cell of a kind, behind the kind's letter (rule 10.5)
unfoldable pub cell_lines : List ℕ → List (List ℕ) → List ℕ
cell_lines word cells = concat_map (λ (cell : List ℕ). line word (map decimal cell)) cells

-- all lines of a mesh (rule 10.5)
unfoldable pub mesh_lines : Mesh → List ℕ
mesh_lines m =
    let t = topology m in
    mesh_line (counts_of m)
    ++ (concat_map (vertex_line m t) (up_from 0 t.vertex_count)
    ++ (cell_lines (text "h") t.hexes
    ++ (cell_lines (text "q") t.quads
    ++ (cell_lines (text "s") t.segments
    ++ cell_lines (text "p") t.points))))

-- ---- the program

-- too long is 11, empty is 13, then reading's and refining's; the first byte is the rounds (rules 10.1 and 10.2)
unfoldable pub listing_refusal : List ℕ → ℕ
listing_refusal input =
    check (ltb 16_385 (length input)) 11
    (check (eqb (length input) 0) 13
    (stored_refining_refusal (drop 1 input) (get_or input 0 0)))

-- what the program prints for its input (rules 10.4 and 10.5)
abbrev pub listed : ℕ → Mesh → List ℕ
listed zero m = mesh_lines m
listed (suc n) m = refused_line (suc n)

unfoldable pub listing : List ℕ → List ℕ
listing input = listed (listing_refusal input) (refined (get_or input 0 0) (stored_mesh (drop 1 input)))
