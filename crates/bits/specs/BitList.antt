-- Words of two laws, and of no contract: files and fields as lists of bits, the plainest reading of fields that fill each byte from its top
-- bit. The laws (`encode_is_bits`, `field_is_bits`) say that the definitions of `rules`, by numbers, mean the same.
use Rattle.std.specs.Prelude.{List, [], ◌∷◌, ◌++◌, ℕ, zero, suc, ◌/◌, ◌%◌, ◌^◌}
use Rattle.rules.specs.Bits.{Field}

-- v as k bits, the highest first
unfoldable pub bits : ℕ → ℕ → List ℕ
bits zero v = []
bits (suc k) v = v / 2 ^ k % 2 ∷ bits k v

-- the bits of bytes
unfoldable pub bits_of : List ℕ → List ℕ
bits_of [] = []
bits_of (b ∷ s) = bits 8 b ++ bits_of s

-- the bits of fields
unfoldable pub field_bits : List Field → List ℕ
field_bits [] = []
field_bits (f ∷ fs) = bits f.width f.value ++ field_bits fs
