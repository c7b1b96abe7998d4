-- How many distinct parts of each dimension the split of a sound topology has. Assumes nothing.
-- The parts of dimension k of the fine mesh are listed a second time: for each distinct part r, of dimension 1, 2 or 3, and each part p
-- that lies k dimensions below it, all that lies between p and r. That list has no repeats, and the same members.
use mathlib.Core.Path.{◌≡◌, refl, sym, ap, ◌∙◌, subst}
use mathlib.Core.Logic.{inl, inr, ⊎_elim}
use mathlib.Core.List.{List, ◌++◌, map, map-append}
use Prim.Native.Nat.{ℕ, ◌+◌, ◌*◌, ◌^◌}
use native.Mathlib.Omega.{arith}
use lib.ListN.{length, length-map, length-append}
use Rattle.rules.specs.Lists.{concat_map, Key}
use Rattle.rules.specs.Mesh.{places, cell_parts, Topology}
use Rattle.rules.specs.Split.{key_at, distinct_parts, split}
use Rattle.lists.specs.Membership.{In, Once}
use Rattle.lists.proofs.Membership.{in_append, map_in, in_map, concat_map_in, in_concat_map}
use Rattle.lists.proofs.Once.{length_same, once_map, once_inj, once_source, once_concat_map, length_concat_map, concat_map_append, sources}
use Rattle.soundness.specs.Sound.{Sound}
use Rattle.soundness.proofs.CellParts.{Within, subs, below, dimensions, placed, dimension_of_lem, is_part, size, count_below, power, child_interval, child_part, in_subs, subs_in, once_subs}
use Rattle.soundness.proofs.Cells.{CellOf, child_at, in_parts, parts_in, length_part, once_parts_of, upper, tops, tops_in, once_tops, child_cell, is_child}
use Rattle.soundness.proofs.FineParts.{key_inj, fine_key, smallest_parts, child_key}
use Rattle.soundness.proofs.SharedParts.{transfer, ends}

-- a part of a cell, and a distinct part by one that has its key
pub record Top (t : Topology) : Type 0 where
  pub at : CellOf t
  pub its : List ℕ

abbrev top_key : (t : Topology) → Top t → Key
top_key t g = key_at g.at.cell g.its

abbrev Of : (t : Topology) → ℕ → Top t → Type 0
Of t d g = In g.its (places g.at.kind d)

tops_of : (t : Topology) (d : ℕ) → (ts : List (Top t)) × (map (top_key t) ts ≡ distinct_parts t d) × ((g : Top t) → In g ts → Of t d g)
tops_of t d =
    sources (top_key t) (Of t d) (distinct_parts t d)
    (λ y i. let a = in_parts t d y i in (record { at = a.0; its = a.1 }, sym a.3, a.2))

module _ (t : Topology) (s : Sound t) where
  T : ℕ → List (Top t)
  T d = (tops_of t d).0

  all_tops : List (Top t)
  all_tops = T 1 ++ (T 2 ++ T 3)

  keys_are : map (top_key t) all_tops ≡ tops t
  unfolding all_tops T
  keys_are =
      let a = (tops_of t 1).1 in
      let b = (tops_of t 2).1 in
      let c = (tops_of t 3).1 in
      map-append (top_key t) (T 1) (T 2 ++ T 3)
      ∙ ap (λ (l : List Key). map (top_key t) (T 1) ++ l) (map-append (top_key t) (T 2) (T 3))
      ∙ cc

  top_of : (g : Top t) → In g all_tops → (d : ℕ) × In d upper × Of t d g
  unfolding all_tops T
  top_of g i =
      ⊎_elim
      (λ (j : In g (T 1)). (1, inl refl, (tops_of t 1).2 g j))
      (λ (k : In g (T 2 ++ T 3)).
      ⊎_elim
      (λ (j : In g (T 2)). (2, inr (inl refl), (tops_of t 2).2 g j))
      (λ (j : In g (T 3)). (3, inr (inr (inl refl)), (tops_of t 3).2 g j))
      (in_append g (T 2) (T 3) k))
      (in_append g (T 1) (T 2 ++ T 3) i)

  once_keys : Once (map (top_key t) all_tops)
  once_keys = rw keys_are (once_tops t)

  -- the parts of dimension k of the fine mesh whose upper end is g
  block : ℕ → Top t → List Key
  block k g = map (λ (p : List ℕ). fine_key t g.at p g.its) (subs g.at.kind k g.its)

  listed : ℕ → List Key
  listed k = concat_map (block k) all_tops

  -- ---- how long the list is

  length_block : (k : ℕ) → In k upper → (d : ℕ) → In d upper → (g : Top t) → Of t d g → length (block k g) ≡ below k d
  unfolding block
  length_block k i d j g h =
      length-map (subs g.at.kind k g.its) (λ (p : List ℕ). fine_key t g.at p g.its)
      ∙ count_below g.at.kind d (inr j) g.its h k (inr i)

  length_of : (k : ℕ) → In k upper → (d : ℕ) → In d upper → length (concat_map (block k) (T d)) ≡ below k d * length (distinct_parts t d)
  unfolding T
  length_of k i d j =
      length_concat_map (block k) (below k d) (T d) (λ g h. length_block k i d j g ((tops_of t d).2 g h))
      ∙ ap (λ (n : ℕ). below k d * n) (sym (length-map (T d) (top_key t)) ∙ ap length (tops_of t d).1)

  length_listed :
      (k : ℕ) → In k upper →
      length (listed k) ≡ below k 1 * length (distinct_parts t 1) + (below k 2 * length (distinct_parts t 2) + below k 3 * length (distinct_parts t 3))
  unfolding listed all_tops
  length_listed k i =
      let a = length_of k i 1 (inl refl) in
      let b = length_of k i 2 (inr (inl refl)) in
      let c = length_of k i 3 (inr (inr (inl refl))) in
      ap length (concat_map_append (block k) (T 1) (T 2 ++ T 3)
      ∙ ap (λ (l : List Key). concat_map (block k) (T 1) ++ l) (concat_map_append (block k) (T 2) (T 3)))
      ∙ length-append (concat_map (block k) (T 1)) (concat_map (block k) (T 2) ++ concat_map (block k) (T 3))
      ∙ ap (λ (n : ℕ). length (concat_map (block k) (T 1)) + n) (length-append (concat_map (block k) (T 2)) (concat_map (block k) (T 3)))
      ∙ cc

  -- ---- it has no repeats

  its_part : (g : Top t) → In g all_tops → In g.its (cell_parts g.at.kind)
  its_part g i = let a = top_of g i in is_part g.at.kind a.0 (inr a.1) g.its a.2

  same_ends :
      (g g' : Top t) → In g all_tops → In g' all_tops → (k : ℕ) (p q : List ℕ) → In p (subs g.at.kind k g.its) →
      In q (subs g'.at.kind k g'.its) → fine_key t g.at p g.its ≡ fine_key t g'.at q g'.its →
      (key_at g.at.cell p ≡ key_at g'.at.cell q) × (top_key t g ≡ top_key t g')
  same_ends g g' i j k p q pi qi e =
      let a = in_subs g.at.kind k g.its p pi in
      let b = in_subs g'.at.kind k g'.its q qi in
      ends t s g.at g'.at p g.its q g'.its a.0 (its_part g i) a.1 b.0 (its_part g' j) b.1 e

  once_block : (k : ℕ) (g : Top t) → In g all_tops → Once (block k g)
  unfolding block
  once_block k g i =
      once_map (λ (p : List ℕ). fine_key t g.at p g.its) (subs g.at.kind k g.its) (once_subs g.at.kind k g.its)
      (λ p q pi qi e. key_inj t s g.at p q (in_subs g.at.kind k g.its p pi).0 (in_subs g.at.kind k g.its q qi).0
      (same_ends g g i i k p q pi qi e).0)

  once_listed : (k : ℕ) → Once (listed k)
  unfolding listed block
  once_listed k =
      once_concat_map (block k) all_tops (once_source (top_key t) all_tops once_keys) (once_block k)
      (λ g g' z i j zt zu.
      let a = in_map (λ (p : List ℕ). fine_key t g.at p g.its) (subs g.at.kind k g.its) z zt in
      let b = in_map (λ (p : List ℕ). fine_key t g'.at p g'.its) (subs g'.at.kind k g'.its) z zu in
      once_inj (top_key t) all_tops once_keys g g' i j (same_ends g g' i j k a.0 b.0 a.1 b.1 (sym a.2 ∙ b.2)).1)

  -- ---- all in it are parts of the fine mesh

  listed_met : (k : ℕ) → In k upper → (z : Key) → In z (listed k) → In z (distinct_parts (split t) k)
  unfolding listed block child_cell
  listed_met k ki z i =
      let a = in_concat_map (block k) all_tops z i in
      let g = a.0 in
      let x = g.at in
      let b = in_map (λ (p : List ℕ). fine_key t x p g.its) (subs x.kind k g.its) z a.2 in
      let c = child_part x.kind k (inr ki) g.its (its_part g a.1) b.0 b.1 in
      let n = c.0 in
      let ps = c.2.0 in
      let w = placed x.kind ps (is_part x.kind k (inr ki) ps c.2.1) in
      let e : key_at (child_at t x.kind x.cell n) ps ≡ fine_key t x b.0 g.its =
      child_key t s x n ps b.0 g.its w (child_interval x.kind k (inr ki) n c.1 ps c.2.1).0 c.2.2 in
      subst (λ (y : Key). In y (distinct_parts (split t) k)) (e ∙ sym b.2) (parts_in (split t) k (child_cell t x n c.1) ps c.2.1)

  -- ---- and all parts of the fine mesh are in it

  -- something lies below a part only if it is no corner
  not_corner : (k : ℕ) → In k upper → (d n : ℕ) → In d dimensions → 2 ^ k * n ≡ 2 ^ d → In d upper
  not_corner k i d n (inr j) e = j
  not_corner k (inl p) d n (inl q) e =
      let f : 2 * n ≡ 1 = ap (λ (k : ℕ). 2 ^ k * n) (sym p) ∙ e ∙ ap (λ (d : ℕ). 2 ^ d) q in absurd (omega (arith, f))
  not_corner k (inr (inl p)) d n (inl q) e =
      let f : 4 * n ≡ 1 = ap (λ (k : ℕ). 2 ^ k * n) (sym p) ∙ e ∙ ap (λ (d : ℕ). 2 ^ d) q in absurd (omega (arith, f))
  not_corner k (inr (inr (inr x6))) d n (inl q) e = elim x6 [ ]
  not_corner k (inr (inr (inl p))) d n (inl q) e =
      let f : 8 * n ≡ 1 = ap (λ (k : ℕ). 2 ^ k * n) (sym p) ∙ e ∙ ap (λ (d : ℕ). 2 ^ d) q in absurd (omega (arith, f))

  fine_listed :
      (k : ℕ) → In k upper → (x : CellOf t) (p r : List ℕ) → In p (cell_parts x.kind) → In r (cell_parts x.kind) → Within p r →
      2 ^ k * length p ≡ length r → In (fine_key t x p r) (listed k)
  unfolding listed block
  fine_listed k ki x p r pi ri h l =
      let a = dimension_of_lem x.kind r ri in
      let d = a.0 in
      let du : In d upper = not_corner k ki d (length p) a.1 (l ∙ size x.kind d a.1 r a.2) in
      let b = in_map (top_key t) all_tops (key_at x.cell r) (rw keys_are (tops_in t d du (key_at x.cell r) (parts_in t d x r a.2))) in
      let g = b.0 in
      let n : length g.its ≡ length r = sym (length_part g.at.cell g.its) ∙ ap length (sym b.2) ∙ length_part x.cell r in
      let e = same_dimension g b.1 d a.1 (n ∙ size x.kind d a.1 r a.2) in
      let c = transfer t s x g.at d a.1 r a.2 g.its e b.2 p pi h in
      let o : length c.0.its ≡ length p =
      sym (length_part g.at.cell c.0.its) ∙ ap length (sym c.0.same_key) ∙ length_part x.cell p in
      subst (λ (y : Key). In y (concat_map (block k) all_tops)) (sym c.1)
      (concat_map_in (block k) all_tops g (fine_key t g.at c.0.its g.its) b.1
      (map_in (λ (p : List ℕ). fine_key t g.at p g.its) (subs g.at.kind k g.its) c.0.its
      (subs_in g.at.kind k g.its c.0.its c.0.is_part c.0.within (ap (λ (n : ℕ). 2 ^ k * n) o ∙ l ∙ sym n))))
    where
      same_dimension : (g : Top t) → In g all_tops → (d : ℕ) → In d dimensions → length g.its ≡ 2 ^ d → In g.its (places g.at.kind d)
      same_dimension g i d j l =
          let a = top_of g i in
          let e : a.0 ≡ d = power a.0 (inr a.1) d j (sym (size g.at.kind a.0 (inr a.1) g.its a.2) ∙ l) in
          subst (λ (d : ℕ). In g.its (places g.at.kind d)) e a.2

  met_listed : (k : ℕ) → In k upper → (z : Key) → In z (distinct_parts (split t) k) → In z (listed k)
  met_listed k ki z i =
      let a = in_parts (split t) k z i in
      let κ = a.0.kind in
      let ps = a.1 in
      let c = is_child t κ a.0.cell a.0.listed in
      let x : CellOf t = record { kind = κ; cell = c.parent; listed = c.listed } in
      let n = c.number in
      let w = placed κ ps (is_part κ k (inr ki) ps a.2) in
      let v = child_interval κ k (inr ki) n c.placed ps a.2 in
      let p = v.1.0 in
      let r = v.1.2.0 in
      let o = v.1.2.2 in
      let e : key_at (child_at t κ c.parent n) ps ≡ fine_key t x p r = child_key t s x n ps p r w v.0 o.1.1 in
      let f = smallest_parts κ n ps c.placed w in
      subst (λ (y : Key). In y (listed k)) (sym (a.3 ∙ ap (λ (c : List ℕ). key_at c ps) c.is ∙ e))
      (fine_listed k ki x p r (f p v.1.1) (f r v.1.2.1) o.0 o.1.0)

  -- The count of the distinct parts of dimension k of the split.
  pub count_parts :
      (k : ℕ) → In k upper →
      length (distinct_parts (split t) k) ≡ below k 1 * length (distinct_parts t 1) + (below k 2 * length (distinct_parts t 2) + below k 3 * length (distinct_parts t 3))
  count_parts k i =
      length_same (distinct_parts (split t) k) (listed k) (once_parts_of (split t) k) (once_listed k) (met_listed k i) (listed_met k i)
      ∙ length_listed k i
