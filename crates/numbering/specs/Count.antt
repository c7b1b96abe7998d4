-- Words of inner contracts: what counting distinct keys answers.
use Rattle.std.specs.Prelude.{◌≡◌, List, ◌++◌, ℕ, ◌-◌, ◌/◌, ◌^◌, min, length, Option, Some, None}
use Rattle.rules.specs.Lists.{Key, distinct}
use Rattle.numbering.specs.declared.parts.Parts.TheVariants.{HexEdges, HexFaces, QuadEdges, Quads, Segments}
use Rattle.numbering.specs.Parts.{table_keys}

-- The keys of `size` words each that so many words have room for: `most` are enough, and a link has 32 bits. One word is the head of a slot more
-- than there are keys.
abbrev pub room_of : ℕ → ℕ → ℕ → ℕ
room_of words size most = min (min ((words - 1) / size) most) (2 ^ 32 - 2)

-- a count is that of the distinct keys; that there is no room for them says nothing
abbrev pub CountOf : List Key → Option ℕ → Type 0
CountOf ks (Some n) = n ≡ length (distinct ks)
CountOf ks None = Unit {0}

-- the keys of the edges and of the faces in the order met (rule 2.2 of docs/SPECIFICATION.md)
unfoldable pub edge_keys : List ℕ → List ℕ → List ℕ → List Key
edge_keys hexes quads segments = table_keys HexEdges hexes ++ (table_keys QuadEdges quads ++ table_keys Segments segments)

unfoldable pub face_keys : List ℕ → List ℕ → List Key
face_keys hexes quads = table_keys HexFaces hexes ++ table_keys Quads quads
