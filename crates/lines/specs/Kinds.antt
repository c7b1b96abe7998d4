-- Words of inner contracts: what tells the kinds of cells apart in the listing: the corners of a cell, and the letter of its lines.
use Rattle.std.specs.Prelude.{ℕ}
use Rattle.lines.specs.declared.kinds.Kind.{Kind}
use Rattle.lines.specs.declared.kinds.Kind.TheVariants.{Hex, Quad, Segment, Point}

abbrev pub corner_count : Kind → ℕ
corner_count Hex = 8
corner_count Quad = 4
corner_count Segment = 2
corner_count Point = 1

-- h, q, s and p
abbrev pub letter_of : Kind → ℕ
letter_of Hex = 104
letter_of Quad = 113
letter_of Segment = 115
letter_of Point = 112
