-- Words of inner contracts: the range of a coordinate, as a statement.
use Rattle.std.specs.Prelude.{◌<◌, ℤ}
use Rattle.std.specs.Int.Signed.{mag}

-- the range of rule 1.2 of docs/SPECIFICATION.md: `mag` of a number below 0 is one less than its size
abbrev pub InRange : ℤ → Type 0
InRange z = mag z < 536_870_912
