-- A text literal as the bytes that are printed.
use Rattle.std.specs.Prelude.{List, [] as []ᴸ, ◌∷◌ as ◌∷ᴸ◌, ℕ}
use Prim.Native.Char.{code}
use Prim.Native.String.{String, [], ◌∷◌}

-- one byte a character; "\n" is the line feed (rule 10.3)
abbrev pub text : String → List ℕ
text [] = []ᴸ
text (c ∷ cs) = code c ∷ᴸ text cs
