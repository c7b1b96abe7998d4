-- Check 7 by keys and one more number a face: the corner across its least corner. Assumes nothing.
use mathlib.Core.Path.{◌≡◌, refl, sym, ap, ◌∙◌, subst}
use mathlib.Core.Bool.{Bool, true, false, not, cond, ◌&&◌}
use mathlib.Core.Logic.{◌⊎◌, inl, inr, ◌↔◌}
use mathlib.Core.List.{List}
use Prim.Native.Nat.{ℕ, ◌<◌, ◌≤◌}
use native.Mathlib.Omega.{arith}
use lib.ListN.{length}
use lib.Dec.{leb, ltb, eqb}
use borrow.Author.Tests.{leb-true, leb-false, ltb-true, ltb-false, eqb-true, eq-eqb, not-false}
use Rattle.rules.specs.Lists.{any, repeats, Key, key_of, same}
use Rattle.rules.specs.Mesh.{Topology}
use Rattle.rules.specs.Split.{corners_at, met}
use Rattle.rules.specs.Refusals.{repeated_corner, ring, mismatched, mismatched_face}
use Rattle.lists.specs.Membership.{In, Once}
use Rattle.lists.proofs.Membership.{get_or_in, in_get_or}
use Rattle.lists.proofs.Once.{once_map, once_place}
use Rattle.lists.proofs.Tests.{false_together, and_false, false_and, none_in, in_none, repeats_once_numbers}
use Rattle.lists.proofs.Keys.{same_members, same_eq, eq_same}
use Rattle.soundness.specs.Sound.{corner}
use Rattle.soundness.specs.Across.{lesser, greater, across}
use Rattle.soundness.proofs.CellParts.{placed, once_part, is_part, size}
use Rattle.soundness.proofs.Cells.{in_met, length_corners}
use Rattle.soundness.proofs.Checks.{Sized, astray, ring_kept, kept_ring, mismatched_is, none_cells, placed_below}
use Rattle.soundness.proofs.Opposite.{four, opposite, Quad, below_four, in_four, opposite_decides}

-- ---- the least corner of a face

record Least (f : List ℕ) (x : ℕ) : Type 0 where
  place : ℕ
  placed : In place four
  least : (j : ℕ) → In j four → corner f place ≤ corner f j
  is : x ≡ corner f (opposite place)

-- two numbers in order: the lesser is one of them and at most both, the greater is the other
abbrev Sorted : ℕ → ℕ → ℕ → ℕ → Type 0
Sorted a b low high = (low ≤ a) × (low ≤ b) × (((low ≡ a) × (high ≡ b)) ⊎ ((low ≡ b) × (high ≡ a)))

sorted : (a b : ℕ) → Sorted a b (lesser a b) (greater a b)
sorted a b = go (leb a b) refl
  where
    go : (p : Bool) → leb a b ≡ p → Sorted a b (cond p a b) (cond p b a)
    go true h = (omega arith, omega (arith, leb-true a b h), inl (refl, refl))
    go false h = (omega (arith, leb-false a b h), omega arith, inr (refl, refl))

least_of_lem : (f : List ℕ) → Least f (across f)
unfolding across
least_of_lem f = go (ltb (lesser a c) (lesser b d)) refl (sorted a c) (sorted b d)
  where
    a : ℕ
    a = corner f 0

    b : ℕ
    b = corner f 1

    c : ℕ
    c = corner f 2

    d : ℕ
    d = corner f 3

    at : (x : ℕ) → (x ≤ a) × (x ≤ b) × (x ≤ c) × (x ≤ d) → (j : ℕ) → In j four → x ≤ corner f j
    at x h j (inl e) = subst (λ (j : ℕ). x ≤ corner f j) (sym e) h.0
    at x h j (inr (inl e)) = subst (λ (j : ℕ). x ≤ corner f j) (sym e) h.1
    at x h j (inr (inr (inl e))) = subst (λ (j : ℕ). x ≤ corner f j) (sym e) h.2
    at x h j (inr (inr (inr (inr x5)))) = elim x5 [ ]
    at x h j (inr (inr (inr (inl e)))) = subst (λ (j : ℕ). x ≤ corner f j) (sym e) h.3

    go :
        (r : Bool) → ltb (lesser a c) (lesser b d) ≡ r → Sorted a c (lesser a c) (greater a c) → Sorted b d (lesser b d) (greater b d) →
        Least f (across f)
    go true l (h, k, inl e) q =
        let n = ltb-true (lesser a c) (lesser b d) l in
        record { place = 0; placed = inl refl; least = at a (omega arith); is = rw l e.1 }
    go true l (h, k, inr e) q =
        let n = ltb-true (lesser a c) (lesser b d) l in
        record { place = 2; placed = inr (inr (inl refl)); least = at c (omega arith); is = rw l e.1 }
    go false l p (h, k, inl e) =
        let n = ltb-false (lesser a c) (lesser b d) l in
        record { place = 1; placed = inr (inl refl); least = at b (omega arith); is = rw l e.1 }
    go false l p (h, k, inr e) =
        let n = ltb-false (lesser a c) (lesser b d) l in
        record { place = 3; placed = inr (inr (inr (inl refl))); least = at d (omega arith); is = rw l e.1 }

-- the least corner of f is not below that of a face with the same corners
least_le :
    (f g : List ℕ) → Quad f → Quad g → key_of f ≡ key_of g → (p : Least f (across f)) (q : Least g (across g)) →
    corner g q.place ≤ corner f p.place
least_le f g a b e p q =
    let i = get_or_in f p.place 0 (omega (arith, below_four p.place p.placed, a.four_of)) in
    let r = in_get_or g (corner f p.place) 0 (same_members f g e (corner f p.place) i) in
    omega (arith, q.least r.0 (in_four r.0 (omega (arith, r.1, b.four_of))), r.2)

-- ---- two faces of one corner set

module _ (f g : List ℕ) (a : Quad f) (b : Quad g) where
  pub ring_across : key_of f ≡ key_of g → ((k : Key) → In k (ring f) → In k (ring g)) ↔ (across f ≡ across g)
  ring_across e =
      let p = least_of_lem f in
      let q = least_of_lem g in
      let h : corner f p.place ≡ corner g q.place = omega (arith, least_le f g a b e p q, least_le g f b a (sym e) q p) in
      let o = opposite_decides f g a b e p.place q.place p.placed q.placed h in
      ((λ r. p.is ∙ o.0 r ∙ sym q.is), (λ r. o.1 (sym p.is ∙ r ∙ q.is)))

  -- the test of check 7, by keys and one more number a face
  pub mismatched_across : mismatched f g ≡ (same (key_of f) (key_of g) && not (eqb (across f) (across g)))
  mismatched_across =
      false_together (mismatched f g) (same (key_of f) (key_of g) && not (eqb (across f) (across g)))
      (λ h. false_and (same (key_of f) (key_of g)) (not (eqb (across f) (across g)))
      (λ e. ap not (eq-eqb (across f) (across g)
      ((ring_across (same_eq (key_of f) (key_of g) e)).0
      (ring_kept f g (and_false (same (key_of f) (key_of g)) (astray f g) (sym (mismatched_is f g) ∙ h) e))))))
      (λ h. mismatched_is f g
      ∙ false_and (same (key_of f) (key_of g)) (astray f g)
      (λ e. kept_ring f g ((ring_across (same_eq (key_of f) (key_of g) e)).1
      (eqb-true (across f) (across g)
      (not-false (eqb (across f) (across g)) (and_false (same (key_of f) (key_of g)) (not (eqb (across f) (across g))) h e))))))

-- ---- all faces of a topology whose cells name no corner twice

module _ (t : Topology) (z : Sized t) (h₅ : repeated_corner t ≡ false) where
  pub met_quad : (f : List ℕ) → In f (met t 2) → Quad f
  unfolding corners_at repeated_corner
  met_quad f i =
      let a = in_met t 2 f i in
      let κ = a.0.kind in
      let c = a.0.cell in
      let p = a.1 in
      let pi = is_part κ 2 (inr (inr (inl refl))) p a.2 in
      let below : (j : ℕ) → In j p → j < length c = λ j k. placed_below t z κ c a.0.listed j (placed κ p pi j k) in
      record {
        four_of = ap length a.3 ∙ length_corners c p ∙ size κ 2 (inr (inr (inl refl))) p a.2;
        once =
            subst Once (sym a.3)
            (once_map (corner c) p (once_part κ p pi)
            (λ i j k l e. once_place c 0 (repeats_once_numbers c (none_cells t (repeats eqb) h₅ κ c a.0.listed)) i j (below i k)
            (below j l) e));
      }

  -- Check 7 with one number for each key: where w has for each face's key the number of some face with that key, as of the first met,
  -- the check fails just where some face has another number.
  pub mismatched_face_by :
      (w : Key → ℕ) → ((f : List ℕ) → In f (met t 2) → (g : List ℕ) × In g (met t 2) × (key_of g ≡ key_of f) × (across g ≡ w (key_of f))) →
      mismatched_face t ≡ any (λ (f : List ℕ). not (eqb (across f) (w (key_of f)))) (met t 2)
  unfolding mismatched_face
  mismatched_face_by w own =
      false_together (mismatched_face t) (any (λ (f : List ℕ). not (eqb (across f) (w (key_of f)))) (met t 2))
      (λ h. in_none (λ (f : List ℕ). not (eqb (across f) (w (key_of f)))) (met t 2)
      (λ f i.
      let g = own f i in
      let n = none_in (mismatched f) (met t 2) (none_in (λ (f : List ℕ). any (mismatched f) (met t 2)) (met t 2) h f i) g.0 g.1 in
      let e =
      eqb-true (across f) (across g.0)
      (not-false (eqb (across f) (across g.0))
      (and_false (same (key_of f) (key_of g.0)) (not (eqb (across f) (across g.0)))
      (sym (mismatched_across f g.0 (met_quad f i) (met_quad g.0 g.1)) ∙ n) (eq_same (key_of f) (key_of g.0) (sym g.2)))) in
      ap not (eq-eqb (across f) (w (key_of f)) (e ∙ g.3))))
      (λ h. in_none (λ (f : List ℕ). any (mismatched f) (met t 2)) (met t 2)
      (λ f i. in_none (mismatched f) (met t 2)
      (λ g j. mismatched_across f g (met_quad f i) (met_quad g j)
      ∙ false_and (same (key_of f) (key_of g)) (not (eqb (across f) (across g)))
      (λ e. ap not (eq-eqb (across f) (across g) (number h f i ∙ ap w (same_eq (key_of f) (key_of g) e) ∙ sym (number h g j)))))))
    where
      number : any (λ (f : List ℕ). not (eqb (across f) (w (key_of f)))) (met t 2) ≡ false → (f : List ℕ) → In f (met t 2) → across f ≡ w (key_of f)
      number h f i =
          eqb-true (across f) (w (key_of f))
          (not-false (eqb (across f) (w (key_of f))) (none_in (λ (f : List ℕ). not (eqb (across f) (w (key_of f)))) (met t 2) h f i))
