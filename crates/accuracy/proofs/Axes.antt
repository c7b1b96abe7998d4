-- The coordinates on one axis of a flat table of vertices, and of the vertices that a round gives.
use mathlib.Core.Path.{◌≡◌, refl, ap, ◌∙◌}
use mathlib.Core.List.{List, [], ◌∷◌, map, map-map}
use Prim.Native.Nat.{ℕ, zero, suc, ◌+◌, ◌*◌, ◌/◌, ◌<◌}
use native.Mathlib.Omega.{arith}
use lib.ListN.{length, get_or, length-map}
use lib.IntN.{ℤ, pos}
use Rattle.rules.specs.Lists.{concat, cut}
use Rattle.rules.specs.Means.{Mean, Round, coordinate, rounded}
use Rattle.rules.specs.Averaging.{axis, averaged}
use Rattle.lists.specs.Membership.{In}
use Rattle.lists.proofs.Membership.{in_map, get_or_map, concat_map_is}
use Rattle.lists.proofs.Tables.{length_cut, cut_concat, cut_at}

pub length_axis : (a : ℕ) (xs : List ℤ) → length (axis a xs) ≡ length xs / 3
unfolding axis
length_axis a xs = length-map (cut 3 xs) (λ (p : List ℤ). get_or p a (pos 0)) ∙ length_cut 3 xs

pub axis_at : (a : ℕ) (xs : List ℤ) (v : ℕ) → a < 3 → v < length xs / 3 → coordinate (axis a xs) v ≡ get_or xs (3 * v + a) (pos 0)
unfolding axis
axis_at a xs v h l =
    get_or_map (λ (p : List ℤ). get_or p a (pos 0)) (cut 3 xs) v [] (pos 0) (rw (length_cut 3 xs) l) ∙ cut_at 3 v a xs [] (pos 0) l h

-- ---- the rounded means of a round

abbrev moved : List ℤ → Mean → List ℤ
moved xs m = rounded (axis 0 xs) m ∷ rounded (axis 1 xs) m ∷ rounded (axis 2 xs) m ∷ []

triples : (r : Round) (xs c : List ℤ) → In c (map (moved xs) r) → length c ≡ 3
triples r xs c i = let m = in_map (moved xs) r c i in ap length m.2

averaged_is : (r : Round) (xs : List ℤ) → averaged r xs ≡ concat (map (moved xs) r)
unfolding averaged
averaged_is r xs = concat_map_is (moved xs) r

-- each axis of the vertices after a round is the means of that axis, rounded
pub axis_averaged : (a : ℕ) (r : Round) (xs : List ℤ) → a < 3 → axis a (averaged r xs) ≡ map (rounded (axis a xs)) r
unfolding axis
axis_averaged a r xs h =
    let at : List ℤ → ℤ = λ p. get_or p a (pos 0) in
    ap (map at) (ap (cut 3) (averaged_is r xs) ∙ cut_concat 3 (map (moved xs) r) (omega arith) (triples r xs))
    ∙ map-map at (moved xs) r
    ∙ ap (λ (f : Mean → ℤ). map f r) (place a h)
  where
    place : (a : ℕ) → a < 3 → (λ (m : Mean). get_or (moved xs m) a (pos 0)) ≡ rounded (axis a xs)
    place zero h = refl
    place (suc zero) h = refl
    place (suc (suc zero)) h = refl
    place (suc (suc (suc a))) h = absurd (omega arith)
