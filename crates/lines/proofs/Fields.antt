-- The lines of the rules as runs of bytes. Assumes nothing.
use mathlib.Core.Path.{◌≡◌, refl, sym, ap, ◌∙◌}
use mathlib.Core.List.{List, [], ◌∷◌, ◌++◌, map, append_assoc}
use Prim.Native.Nat.{ℕ, ◌+◌, ◌*◌, ◌<◌}
use native.Mathlib.Nat.{add-zero}
use lib.ListN.{get_or}
use lib.IntN.{ℤ, pos}
use lib.Dec.{lit<}
use Rattle.lines.specs.declared.kinds.Kind.{Kind}
use Rattle.lines.specs.declared.kinds.Kind.TheVariants.{Hex, Quad, Segment, Point}
use Rattle.lines.specs.Kinds.{corner_count}
use Rattle.rules.specs.Lists.{concat_map}
use Rattle.rules.specs.Mesh.{Mesh, mesh, Topology, topology}
use Rattle.rules.specs.Averaging.{counted, rank, valence}
use Rattle.rules.specs.Text.{text}
use Rattle.rules.specs.Listing.{decimal, signed_decimal, fields, line, vertex_line}

module _ {A : Type 0} (print : A → List ℕ) where
  -- a field: a number behind a space
  abbrev pub field : A → List ℕ
  field n = 32 ∷ print n

  -- the fields of some numbers, and the line feed behind them
  fields_runs : (ns : List A) → fields (map print ns) ≡ concat_map field ns ++ (10 ∷ [])
  unfolding fields concat_map
  fields_runs [] = refl
  fields_runs (n ∷ ns) = ap (λ (r : List ℕ). 32 ∷ (print n ++ r)) (fields_runs ns) ∙ ap (λ (r : List ℕ). 32 ∷ r) (sym (append_assoc (print n) (concat_map field ns) (10 ∷ [])))

  pub line_runs : (word : List ℕ) (ns : List A) → line word (map print ns) ≡ word ++ (concat_map field ns ++ (10 ∷ []))
  unfolding line
  line_runs word ns = ap (λ (r : List ℕ). word ++ r) (fields_runs ns)

-- the line of a cell
abbrev pub cell_line : ℕ → List ℕ → List ℕ
cell_line letter cell = line (letter ∷ []) (map decimal cell)

-- the numbers of a vertex's line
abbrev pub numbers : Mesh → Topology → ℕ → List ℤ
numbers m t v =
    let at : ℕ → ℤ = λ i. get_or m.vertices i (pos 0) in
    pos v ∷ at (3 * v) ∷ at (3 * v + 1) ∷ at (3 * v + 2) ∷ pos (rank t v) ∷ pos (valence t v) ∷ []

pub vertex_line_is : (m : Mesh) (t : Topology) (v : ℕ) → vertex_line m t v ≡ line (text "v") (map signed_decimal (numbers m t v))
unfolding vertex_line signed_decimal
vertex_line_is m t v = rw (add-zero (3 * v)) refl

-- rank and valence do not look at the coordinates
pub rank_without : (xs : List ℤ) (hs qs ss ps : List ℕ) (v : ℕ) → rank (topology (mesh [] hs qs ss ps)) v ≡ rank (topology (mesh xs hs qs ss ps)) v
unfolding rank counted topology
rank_without xs hs qs ss ps v = refl

pub valence_without : (xs : List ℤ) (hs qs ss ps : List ℕ) (v : ℕ) → valence (topology (mesh [] hs qs ss ps)) v ≡ valence (topology (mesh xs hs qs ss ps)) v
unfolding valence counted topology
valence_without xs hs qs ss ps v = refl

pub some_corners : (k : Kind) → 0 < corner_count k
some_corners Hex = lit< tt
some_corners Quad = lit< tt
some_corners Segment = lit< tt
some_corners Point = lit< tt
