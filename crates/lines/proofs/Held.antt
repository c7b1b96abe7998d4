-- The cells that hold a vertex, counted one by one; which table decides. Assumes nothing.
use mathlib.Core.Path.{◌≡◌, refl, sym, ap, ◌∙◌}
use mathlib.Core.Bool.{Bool}
use mathlib.Core.List.{List, [], ◌∷◌}
use Prim.Native.Nat.{ℕ, zero, suc, ◌/◌}
use native.Mathlib.Omega.{arith}
use lib.ListN.{length, take, drop}
use Rattle.std.specs.Simd.{first_chunks}
use Rattle.std.specs.List.{filter}
use Rattle.rules.specs.Lists.{entries, cut, keep}
use Rattle.rules.specs.Mesh.{Topology}
use Rattle.rules.specs.Averaging.{holding, Counted, or_else, counted, rank, valence}

-- the library's word for what passes a test
pub filter_keep : {A : Type 0} (p q : A → Bool) → ((x : A) → p x ≡ q x) → (xs : List A) → filter p xs ≡ keep q xs
unfolding keep
filter_keep p q same [] = refl
filter_keep p q same (x ∷ xs) = rw (same x, filter_keep p q same xs)

-- the library's word for the entries of a flat table
chunks_entries : (k n : ℕ) (xs : List ℕ) → first_chunks k n xs ≡ entries k n xs
unfolding entries
chunks_entries k zero xs = refl
chunks_entries k (suc n) xs = ap (λ (rest : List (List ℕ)). take k xs ∷ rest) (chunks_entries k n (drop k xs))

pub chunks_cut : (k : ℕ) (xs : List ℕ) → first_chunks k (length xs / k) xs ≡ cut k xs
unfolding cut
chunks_cut k xs = chunks_entries k (length xs / k) xs

-- ---- which table decides

-- one without a cell of the vertex leaves it to the higher dimensions
none_held : (d : ℕ) (cells : List (List ℕ)) (higher : Counted) → length cells ≡ 0 → or_else d cells higher ≡ higher
unfolding or_else
none_held d [] higher h = refl
none_held d (x ∷ xs) higher h = absurd (omega arith)

some_held : (d : ℕ) (cells : List (List ℕ)) (higher : Counted) → (length cells ≡ 0 → ⊥) → or_else d cells higher ≡ record { rank = d; cells = cells }
unfolding or_else
some_held d [] higher h = absurd (h refl)
some_held d (x ∷ xs) higher h = refl

-- n cells of rank d decide for vertex v
pub record Decides (t : Topology) (v d n : ℕ) : Type 0 where
  pub ranks : d ≡ rank t v
  pub counts : n ≡ valence t v

decided : (t : Topology) (v d : ℕ) (cells : List (List ℕ)) → counted t v ≡ record { rank = d; cells = cells } → Decides t v d (length cells)
unfolding rank valence
decided t v d cells e = record { ranks = ap (λ (c : Counted). c.rank) (sym e); counts = ap (λ (c : Counted). length c.cells) (sym e) }

module _ (t : Topology) (v : ℕ) where
  pub points_decide : (length (holding v t.points) ≡ 0 → ⊥) → Decides t v 0 (length (holding v t.points))
  unfolding counted
  points_decide p = decided t v 0 _ (some_held 0 _ _ p)

  module _ (p : length (holding v t.points) ≡ 0) where
    pub segments_decide : (length (holding v t.segments) ≡ 0 → ⊥) → Decides t v 1 (length (holding v t.segments))
    unfolding counted
    segments_decide s = decided t v 1 _ (none_held 0 _ _ p ∙ some_held 1 _ _ s)

    module _ (s : length (holding v t.segments) ≡ 0) where
      pub quads_decide : (length (holding v t.quads) ≡ 0 → ⊥) → Decides t v 2 (length (holding v t.quads))
      unfolding counted
      quads_decide q = decided t v 2 _ (none_held 0 _ _ p ∙ none_held 1 _ _ s ∙ some_held 2 _ _ q)

      pub hexes_decide : length (holding v t.quads) ≡ 0 → Decides t v 3 (length (holding v t.hexes))
      unfolding counted
      hexes_decide q = decided t v 3 _ (none_held 0 _ _ p ∙ none_held 1 _ _ s ∙ none_held 2 _ _ q)
