-- Words of inner contracts: a buffer into which bit fields are written one behind another.
use Rattle.std.specs.Prelude.{List, [], ◌∷◌, ◌++◌, ℕ, ◌+◌, ◌*◌, ◌^◌, ◌<◌, drop, get_or}
use Rattle.rules.specs.Bits.{first_bits, Field, bytes_for, packed}
use Rattle.bits.specs.declared.pending.Pending.{Pending}

-- every element is a byte
abbrev pub Bytes : List ℕ → Type 0
Bytes s = (i : ℕ) → get_or s i 0 < 256

-- every value has its width
abbrev pub Fit : List Field → Type 0
Fit [] = Unit {0}
Fit (f ∷ fs) = (f.value < 2 ^ f.width) × Fit fs

-- a buffer d of which the first p bits spell v: these, zero bits to a whole byte, and the bytes after that as they were
unfoldable pub written : List ℕ → ℕ → ℕ → List ℕ
written d p v = packed p v ++ drop (bytes_for p) d

-- a buffer after k bits that spell v are written behind its first p bits
unfoldable pub put_at : List ℕ → ℕ → ℕ → ℕ → List ℕ
put_at d p k v = written d (p + k) (first_bits d p * 2 ^ k + v)

-- the same for a list of fields
unfoldable pub put_all : List ℕ → ℕ → List Field → List ℕ
put_all d p [] = d
put_all d p (f ∷ fs) = put_all (put_at d p f.width f.value) (p + f.width) fs

-- ---- bits that wait to be put

-- the bit behind them
abbrev pub end_of : Pending → ℕ
end_of p = 8 * p.at + p.count

-- the buffer once they are put
abbrev pub settled : List ℕ → Pending → List ℕ
settled d p = put_at d (8 * p.at) p.count p.bits
