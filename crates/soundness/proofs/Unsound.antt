-- What is not sound: for each of checks 4 to 8 a small topology that it refuses, and what soundness would say of it, which is false.
-- So none of the statements is empty. Assumes nothing.
use mathlib.Core.Path.{◌≡◌, refl, ap, ◌∙◌}
use mathlib.Core.Logic.{inl, inr}
use mathlib.Core.List.{List, [], ◌∷◌}
use Prim.Native.Nat.{ℕ}
use native.Mathlib.Omega.{arith}
use Rattle.rules.specs.Lists.{concat_map, up_from, Key, insert, key_of, same}
use Rattle.rules.specs.Mesh.{Kind, hex, quad, segment, point, whole, singles, by_dimension, places, Topology, cells_of}
use Rattle.rules.specs.Split.{corners_at, key_at, met}
use Rattle.rules.specs.Refusals.{ring}
use Rattle.lists.specs.Membership.{In}
use Rattle.lists.proofs.Decide.{dec_in, dec_if, dec_key, computed}
use Rattle.soundness.specs.Sound.{corner, Sound}

abbrev cells : ℕ → List (List ℕ) → List (List ℕ) → List (List ℕ) → List (List ℕ) → Topology
cells n hs qs ss ps = record { vertex_count = n; hexes = hs; quads = qs; segments = ss; points = ps }

-- 4: vertex 1 of one vertex
pub unknown_corner : Sound (cells 1 [] [] [] ((0 ∷ []) ∷ (1 ∷ []) ∷ [])) → ⊥
unfolding whole up_from
unknown_corner s = omega (arith, s.known point (1 ∷ []) (inr (inl refl)) 0 (inl refl))

-- 5: a segment from a vertex to itself
pub repeated_corner_lem : Sound (cells 1 [] [] ((0 ∷ 0 ∷ []) ∷ []) []) → ⊥
unfolding whole up_from
repeated_corner_lem s = omega (arith, s.corners_distinct segment (0 ∷ 0 ∷ []) (inl refl) 0 1 (inl refl) (inr (inl refl)) refl)

-- 6: a segment, and the same the other way round
pub duplicate_cell_lem : Sound (cells 2 [] [] ((0 ∷ 1 ∷ []) ∷ (1 ∷ 0 ∷ []) ∷ []) []) → ⊥
unfolding insert key_of
duplicate_cell_lem s = (s.cells_distinct segment).0 (inl refl)

-- 7: a quad on a hex's face, with two corners exchanged: 0 and 1 are neighbours in the face and none in the quad
pub mismatched_face_lem : Sound (cells 8 ((0 ∷ 1 ∷ 2 ∷ 3 ∷ 4 ∷ 5 ∷ 6 ∷ 7 ∷ []) ∷ []) ((0 ∷ 2 ∷ 1 ∷ 3 ∷ []) ∷ []) [] []) → ⊥
unfolding concat_map up_from insert key_of whole singles by_dimension places corners_at key_at met ring same
mismatched_face_lem s =
    apart (s.matched (0 ∷ 1 ∷ 2 ∷ 3 ∷ []) (0 ∷ 2 ∷ 1 ∷ 3 ∷ []) (inl refl) (inr (inr (inr (inr (inr (inr (inl refl))))))) refl (0 ∷ 1 ∷ []) (inl refl))
  where
    quad_ring : List Key
    quad_ring = (0 ∷ 2 ∷ []) ∷ (1 ∷ 2 ∷ []) ∷ (1 ∷ 3 ∷ []) ∷ (0 ∷ 3 ∷ []) ∷ []

    apart : In {A = Key} (0 ∷ 1 ∷ []) quad_ring → ⊥
    apart = computed (dec_if (dec_in dec_key (0 ∷ 1 ∷ []) quad_ring) (no (λ z. z))) tt

-- 8: two vertices, and a point at the first
pub isolated_vertex_lem : Sound (cells 2 [] [] [] ((0 ∷ []) ∷ [])) → ⊥
unfolding whole up_from
isolated_vertex_lem s = let h = s.held 1 (omega arith) in omega (arith, h.is, only h.kind h.cell h.place h.listed h.placed)
  where
    only : (κ : Kind) (cell : List ℕ) (place : ℕ) → In cell (cells_of (cells 2 [] [] [] ((0 ∷ []) ∷ [])) κ) → In place (whole κ) → corner cell place ≡ 0
    only point cell place (inr x8) _ = elim x8 [ ]
    only point cell place (inl e) (inr x8) = elim x8 [ ]
    only segment cell place x4 _ = elim x4 [ ]
    only quad cell place x3 _ = elim x3 [ ]
    only hex cell place x'' _ = elim x'' [ ]
    only point cell place (inl e) (inl k) = ap (λ (c : List ℕ). corner c place) e ∙ ap (corner (0 ∷ [])) k
