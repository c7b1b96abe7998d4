-- Words of inner contracts: the parts of cells that are numbered, and what numbering them answers.
use Rattle.std.specs.Prelude.{◌≡◌, List, ◌++◌, map, ℕ, ◌+◌, ◌^◌, ◌<◌, length, get_or, Option, Some, None}
use Rattle.rules.specs.Lists.{concat, concat_map, cut, overwritten, Key, index_of, meet_all}
use Rattle.rules.specs.Mesh.{Kind, hex, quad, segment, point, corners, places}
use Rattle.rules.specs.Split.{key_at}
use Rattle.numbering.specs.declared.parts.Parts.{Parts}
use Rattle.numbering.specs.declared.parts.Parts.TheVariants.{HexEdges, HexFaces, Hexes, QuadEdges, Quads, Segments, SegmentFaces, Points}
use Rattle.numbering.specs.Table.{keys, MetAll}

-- the kind of cells that have these parts, and the parts' dimension
abbrev pub kind_of : Parts → Kind
kind_of HexEdges = hex
kind_of HexFaces = hex
kind_of Hexes = hex
kind_of QuadEdges = quad
kind_of Quads = quad
kind_of Segments = segment
kind_of SegmentFaces = segment
kind_of Points = point

abbrev pub dimension_of : Parts → ℕ
dimension_of HexEdges = 1
dimension_of HexFaces = 2
dimension_of Hexes = 3
dimension_of QuadEdges = 1
dimension_of Quads = 2
dimension_of Segments = 1
dimension_of SegmentFaces = 2
dimension_of Points = 0

-- the places of each part's corners
abbrev pub places_of : Parts → List (List ℕ)
places_of parts = places (kind_of parts) (dimension_of parts)

-- how many corners a part has, and how many its cell
abbrev pub part_corners : Parts → ℕ
part_corners parts = 2 ^ dimension_of parts

abbrev pub cell_corners : Parts → ℕ
cell_corners parts = corners (kind_of parts)

-- the keys of the parts of a cell, and of the cells of a flat table, in the order met
unfoldable pub part_keys : Parts → List ℕ → List Key
part_keys parts cell = map (key_at cell) (places_of parts)

unfoldable pub table_keys : Parts → List ℕ → List Key
table_keys parts cells = concat_map (part_keys parts) (cut (cell_corners parts) cells)

-- ---- the same from a list of places: those of the parts' corners, one part behind the other

unfoldable pub places_listed : Parts → List ℕ
places_listed parts = concat (places_of parts)

-- they are places in a cell of so many corners
abbrev pub Within : ℕ → List ℕ → Type 0
Within size listed = (i : ℕ) → i < length listed → get_or listed i 0 < size

-- the keys of a cell's parts, c corners each
unfoldable pub listed_keys : ℕ → List ℕ → List ℕ → List Key
listed_keys c listed cell = map (key_at cell) (cut c listed)

-- ---- answers

-- The keys ks were met, and the place of each, counted from `base`, was stored at the front of a list. Places stay, whatever is met later.
pub record Numbered (c : ℕ) (w w' : List ℕ) (room n : ℕ) (ks : List Key) (base : ℕ) (old new : List ℕ) (count : ℕ) : Type 0 where
  pub met : MetAll c w w' room n ks count
  pub numbers_are : (later : List Key) → new ≡ overwritten old (map (λ (k : Key). base + index_of k (meet_all (keys c w room n) (ks ++ later))) ks)

-- the keys were numbered, or there was no room for them all
abbrev pub Numbering : ℕ → List ℕ → List ℕ → ℕ → ℕ → List Key → ℕ → List ℕ → List ℕ → Option ℕ → Type 0
Numbering c w w' room n ks base old new (Some count) = Numbered c w w' room n ks base old new count
Numbering c w w' room n ks base old new None = room < length (meet_all (keys c w room n) ks)

-- the keys were met, or there was no room for them all
abbrev pub Tallied : ℕ → List ℕ → List ℕ → ℕ → ℕ → List Key → Option ℕ → Type 0
Tallied c w w' room n ks (Some count) = MetAll c w w' room n ks count
Tallied c w w' room n ks None = room < length (meet_all (keys c w room n) ks)
