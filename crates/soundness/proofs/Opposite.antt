-- Check 7 by one number a face: two faces of one corner set have the same neighbours in going round just where one corner has the same
-- corner across. Assumes nothing.
use mathlib.Core.Path.{◌≡◌, refl, sym, ap, ◌∙◌, subst}
use mathlib.Core.Logic.{inl, inr, ◌↔◌}
use mathlib.Core.List.{List, [], ◌∷◌, map}
use Prim.Native.Nat.{ℕ, zero, suc, ◌<◌, zero-le}
use native.Mathlib.Omega.{arith}
use lib.ListN.{length, get_or, length-map}
use Rattle.rules.specs.Lists.{concat_map, up_from, Key, key_of}
use Rattle.rules.specs.Mesh.{quad_edges}
use Rattle.rules.specs.Split.{corners_at, key_at}
use Rattle.rules.specs.Refusals.{ring}
use Rattle.lists.specs.Membership.{In, Once}
use Rattle.lists.proofs.Membership.{map_in, in_map, concat_map_in, in_up_from, up_from_in, get_or_in, in_get_or, get_or_map}
use Rattle.lists.proofs.Once.{once_map, once_place, once_source, sources}
use Rattle.lists.proofs.Keys.{same_members, key_ext}
use Rattle.lists.proofs.Decide.{computed, dec_both, dec_if, dec_each, dec_some, keep_if, keep_if_in, dec_number, dec_in, dec_once}
use Rattle.soundness.specs.Sound.{corner}
use Rattle.soundness.proofs.CellParts.{Within, Same, within?, same?}
use Rattle.soundness.proofs.Cells.{in_part, part_in}

abbrev pub four : List ℕ
four = 0 ∷ 1 ∷ 2 ∷ 3 ∷ []

-- the place across
abbrev pub opposite : ℕ → ℕ
opposite i = get_or (2 ∷ 3 ∷ 0 ∷ 1 ∷ []) i 0

-- the lists of n of the places, and the orders of all four
lists : ℕ → List (List ℕ)
lists zero = [] ∷ []
lists (suc n) = concat_map (λ (p : ℕ). map (λ (l : List ℕ). p ∷ l) (lists n)) four

in_lists : (n : ℕ) (l : List ℕ) → length l ≡ n → ((p : ℕ) → In p l → In p four) → In l (lists n)
unfolding lists
in_lists zero [] e h = inl refl
in_lists zero (p ∷ l) e h = absurd (omega arith)
in_lists (suc n) [] e h = absurd (omega arith)
in_lists (suc n) (p ∷ l) e h =
    concat_map_in (λ (p : ℕ). map (λ (l : List ℕ). p ∷ l) (lists n)) four p (p ∷ l) (h p (inl refl))
    (map_in (λ (l : List ℕ). p ∷ l) (lists n) l (in_lists n l (omega arith) (λ q i. h q (inr i))))

orders : List (List ℕ)
orders = keep_if (dec_once dec_number) (lists 4)

-- the steps round 0123 are steps round the order o
abbrev Round : List ℕ → Type 0
Round o = (e : List ℕ) → In e quad_edges → (c : List ℕ) × In c quad_edges × Same e (corners_at o c)

-- place j of o has across it what is across in 0123
abbrev Across : List ℕ → ℕ → Type 0
Across o j = opposite (corner o j) ≡ corner o (opposite j)

abbrev round? : (o : List ℕ) → Dec (Round o)
round? o = dec_each (λ (e : List ℕ). dec_some (λ (c : List ℕ). same? e (corners_at o c)) quad_edges) quad_edges

abbrev across? : (o : List ℕ) (j : ℕ) → Dec (Across o j)
across? o j = dec_number (opposite (corner o j)) (corner o (opposite j))

round_across : (o : List ℕ) → In o orders → (j : ℕ) → In j four → (Round o → Across o j) × (Across o j → Round o)
unfolding orders lists keep_if concat_map corners_at
round_across =
    computed (dec_each (λ (o : List ℕ). dec_each
    (λ (j : ℕ). dec_both (dec_if (round? o) (across? o j)) (dec_if (across? o j) (round? o))) four) orders) tt

edge_places : (e : List ℕ) → In e quad_edges → Within e four × Once e
edge_places = computed (dec_each (λ (e : List ℕ). dec_both (within? e four) (dec_once dec_number e)) quad_edges) tt

opposite_in : (j : ℕ) → In j four → In (opposite j) four
opposite_in = computed (dec_each (λ (j : ℕ). dec_in dec_number (opposite j) four) four) tt

pub below_four : (p : ℕ) → In p four → p < 4
unfolding up_from
below_four p i = (in_up_from 0 4 p i).1

pub in_four : (p : ℕ) → p < 4 → In p four
unfolding up_from
in_four p l = up_from_in 0 4 p zero-le l

-- a face without repeats
pub record Quad (f : List ℕ) : Type 0 where
  pub four_of : length f ≡ 4
  pub once : Once f

corner_inj : (f : List ℕ) → Quad f → (i j : ℕ) → In i four → In j four → corner f i ≡ corner f j → i ≡ j
corner_inj f q i j k l e = once_place f 0 q.once i j (omega (arith, below_four i k, q.four_of)) (omega (arith, below_four j l, q.four_of)) e

once_step : (f : List ℕ) → Quad f → (e : List ℕ) → In e quad_edges → Once (corners_at f e)
unfolding corners_at
once_step f q e i = let w = edge_places e i in once_map (corner f) e w.1 (λ a b j k. corner_inj f q a b (w.0 a j) (w.0 b k))

-- g is f in another order
record Order (f g : List ℕ) : Type 0 where
  o : List ℕ
  listed : In o orders
  at : (j : ℕ) → In j four → In (corner o j) four
  is : (j : ℕ) → In j four → corner g j ≡ corner f (corner o j)

order : (f g : List ℕ) → Quad f → Quad g → key_of f ≡ key_of g → Order f g
unfolding orders
order f g a b e =
    let s =
    sources (corner f) (λ (p : ℕ). In p four) g
    (λ y i. let r = in_get_or f y 0 (same_members g f (sym e) y i) in (r.0, r.2, in_four r.0 (omega (arith, r.1, a.four_of)))) in
    let o = s.0 in
    let n : length o ≡ 4 = sym (length-map o (corner f)) ∙ ap length s.1 ∙ b.four_of in
    let w : Once o = once_source (corner f) o (rw s.1 b.once) in
    record {
      o = o;
      listed = keep_if_in (dec_once dec_number) (lists 4) o (in_lists 4 o n s.2) w;
      at = λ j i. s.2 (corner o j) (get_or_in o j 0 (omega (arith, below_four j i)));
      is = λ j i. ap (λ (l : List ℕ). corner l j) (sym s.1) ∙ get_or_map (corner f) o j 0 0 (omega (arith, below_four j i));
    }

module _ (f g : List ℕ) (a : Quad f) (b : Quad g) (e : key_of f ≡ key_of g) where
  σ : Order f g
  σ = order f g a b e

  -- a place of a step round 0123, and of the same step round the order
  to_step : (s : List ℕ) → In s quad_edges → (p : ℕ) → In p four → In (corner f p) (key_at g s) → In p (corners_at σ.o s)
  unfolding σ corners_at
  to_step s i p pi h =
      let q = in_part g s (corner f p) h in
      let qi = (edge_places s i).0 q.0 q.1 in
      let k : p ≡ corner σ.o q.0 = corner_inj f a p (corner σ.o q.0) pi (σ.at q.0 qi) (q.2 ∙ σ.is q.0 qi) in
      subst (λ (z : ℕ). In z (corners_at σ.o s)) (sym k) (map_in (corner σ.o) s q.0 q.1)

  from_step : (s : List ℕ) → In s quad_edges → (p : ℕ) → In p (corners_at σ.o s) → In (corner f p) (corners_at g s)
  unfolding σ corners_at
  from_step s i p h =
      let q = in_map (corner σ.o) s p h in
      let qi = (edge_places s i).0 q.0 q.1 in
      subst (λ (z : ℕ). In z (corners_at g s)) (σ.is q.0 qi ∙ ap (corner f) (sym q.2)) (map_in (corner g) s q.0 q.1)

  step_in : (s : List ℕ) → In s quad_edges → (p : ℕ) → In p (corners_at σ.o s) → In p four
  unfolding σ corners_at
  step_in s i p h =
      let q = in_map (corner σ.o) s p h in
      subst (λ (z : ℕ). In z four) (sym q.2) (σ.at q.0 ((edge_places s i).0 q.0 q.1))

  ring_round : ((k : Key) → In k (ring f) → In k (ring g)) → Round σ.o
  unfolding ring corners_at
  ring_round h c i =
      let r = in_map (key_at g) quad_edges (key_at f c) (h (key_at f c) (map_in (key_at f) quad_edges c i)) in
      let s = r.0 in
      let w = (edge_places c i).0 in (
        s,
        r.1,
        (
          (λ p j. to_step s r.1 p (w p j) (subst (λ (z : Key). In (corner f p) z) r.2 (part_in f c p j))),
          (λ p j.
              let u =
              in_part f c (corner f p) (subst (λ (z : Key). In (corner f p) z) (sym r.2)
              (step_key g s (corner f p) (from_step s r.1 p j))) in
              subst (λ (z : ℕ). In z c) (sym (corner_inj f a p u.0 (step_in s r.1 p j) (w u.0 u.1) u.2)) u.1),
        ),
      )
    where
      step_key : (g s : List ℕ) (z : ℕ) → In z (corners_at g s) → In z (key_at g s)
      step_key g s z i = let q = in_map (corner g) s z i in subst (λ (y : ℕ). In y (key_at g s)) (sym q.2) (part_in g s q.0 q.1)

  round_ring : Round σ.o → (k : Key) → In k (ring f) → In k (ring g)
  unfolding ring key_at corners_at
  round_ring h k i =
      let c = in_map (key_at f) quad_edges k i in
      let r = h c.0 c.1 in
      let s = r.0 in
      let v = r.2 in
      let eq : key_of (corners_at f c.0) ≡ key_of (corners_at g s) =
      key_ext (corners_at f c.0) (corners_at g s) (once_step f a c.0 c.1) (once_step g b s r.1)
      (λ z j. let q = in_map (corner f) c.0 z j in subst (λ (y : ℕ). In y (corners_at g s)) (sym q.2)
      (from_step s r.1 q.0 (v.0 q.0 q.1)))
      (λ z j.
      let q = in_map (corner g) s z j in
      let qi = (edge_places s r.1).0 q.0 q.1 in
      subst (λ (y : ℕ). In y (corners_at f c.0)) (sym (q.2 ∙ σ-is q.0 qi))
      (map_in (corner f) c.0 (corner σ.o q.0) (v.1 (corner σ.o q.0) (map_in (corner σ.o) s q.0 q.1)))) in
      subst (λ (z : Key). In z (map (λ (s : List ℕ). key_of (corners_at g s)) quad_edges)) (sym (c.2 ∙ eq))
      (map_in (λ (s : List ℕ). key_of (corners_at g s)) quad_edges s r.1)
    where
      σ-is : (j : ℕ) → In j four → corner g j ≡ corner f (corner σ.o j)
      σ-is j i = σ.is j i

  -- with corner i of f and corner j of g the same
  pub opposite_decides :
      (i j : ℕ) → In i four → In j four → corner f i ≡ corner g j →
      ((k : Key) → In k (ring f) → In k (ring g)) ↔ (corner f (opposite i) ≡ corner g (opposite j))
  opposite_decides i j ii ji p = (
    (λ h. ap (corner f) (ap opposite k ∙ both.0 (ring_round h)) ∙ sym (σ.is (opposite j) (opposite_in j ji))),
    (λ h.
        let v : opposite i ≡ corner o (opposite j) =
        corner_inj f a (opposite i) (corner o (opposite j)) (opposite_in i ii) (σ.at (opposite j) (opposite_in j ji))
        (h ∙ σ.is (opposite j) (opposite_in j ji)) in
        round_ring (both.1 (ap opposite (sym k) ∙ v))),
  )
    where
      o : List ℕ
      o = σ.o

      k : i ≡ corner o j
      k = corner_inj f a i (corner o j) ii (σ.at j ji) (p ∙ σ.is j ji)

      both : (Round o → Across o j) × (Across o j → Round o)
      both = round_across o σ.listed j ji
