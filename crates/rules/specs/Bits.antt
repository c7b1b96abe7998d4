-- Section 8: bit fields, the most significant bit first. A run of n bits is the number below 2 ^ n that it spells, so a file is one number (rule
-- 8.1).
use Rattle.std.specs.Prelude.{List, [], ◌∷◌, ℕ, zero, suc, ◌+◌, ◌-◌, ◌*◌, ◌/◌, ◌%◌, ◌^◌, max, length}

-- ---- out of bytes

-- the number that bytes spell, the first byte the highest (rule 8.1)
unfoldable pub number : List ℕ → ℕ
number [] = 0
number (b ∷ bs) = b * 2 ^ (8 * length bs) + number bs

-- the number that the first n bits of a file spell (rule 8.1)
unfoldable pub first_bits : List ℕ → ℕ → ℕ
first_bits s n = number s / 2 ^ (8 * length s - n)

-- the field of k bits from bit p on: bit 0 is the top bit of byte 0 (rule 8.1)
unfoldable pub field_at : List ℕ → ℕ → ℕ → ℕ
field_at s p k = first_bits s (p + k) % 2 ^ k

-- the n fields of w bits each that stand one after another from bit p on (rule 8.2)
unfoldable pub table_at : List ℕ → ℕ → ℕ → ℕ → List ℕ
table_at s p w zero = []
table_at s p w (suc n) = field_at s p w ∷ table_at s (p + w) w n

-- ---- into bytes

-- a field: `width` bits that spell `value` (rule 8.1)
pub record Field : Type 0 where
  pub width : ℕ
  pub value : ℕ

-- how many bits fields take together, and the number that they spell, the first field the highest (rule 8.1)
unfoldable pub bits_in : List Field → ℕ
bits_in [] = 0
bits_in (f ∷ fs) = f.width + bits_in fs

unfoldable pub spelled : List Field → ℕ
spelled [] = 0
spelled (f ∷ fs) = f.value * 2 ^ bits_in fs + spelled fs

-- how many bytes hold n bits, and how many filling bits that leaves (rule 8.6)
unfoldable pub bytes_for : ℕ → ℕ
bytes_for n = (n + 7) / 8

abbrev pub filling : ℕ → ℕ
filling n = 8 * bytes_for n - n

-- the m bytes that spell v, the first byte the highest (rule 8.1)
unfoldable pub bytes_of : ℕ → ℕ → List ℕ
bytes_of zero v = []
bytes_of (suc m) v = v / 2 ^ (8 * m) % 256 ∷ bytes_of m v

-- n bits that spell v, filled with zero bits to a whole byte (rule 8.6)
unfoldable pub packed : ℕ → ℕ → List ℕ
packed n v = bytes_of (bytes_for n) (v * 2 ^ filling n)

-- the bytes of a list of fields (rules 8.1 and 8.6)
unfoldable pub encode : List Field → List ℕ
encode fs = packed (bits_in fs) (spelled fs)

-- ---- the index width

-- how many binary digits n has, of which there are at most d: halving takes one off, and 0 has none (rule 8.5)
unfoldable pub digits_in : ℕ → ℕ → ℕ
digits_in zero n = zero
digits_in (suc d) zero = zero
digits_in (suc d) (suc n) = suc (digits_in d (suc n / 2))

-- how many binary digits n has: at most n (rule 8.5)
unfoldable pub binary_digits : ℕ → ℕ
binary_digits n = digits_in n n

-- the index width for this highest vertex number; 1 for 0 (rule 8.5)
unfoldable pub width_of : ℕ → ℕ
width_of highest = max 1 (binary_digits highest)
