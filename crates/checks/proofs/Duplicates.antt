-- Check 6 by a count: keys repeat just where there are fewer distinct ones. Assumes nothing.
use mathlib.Core.Path.{◌≡◌, refl, sym, ap, ◌∙◌, subst}
use mathlib.Core.Bool.{Bool, true, false, not, ◌||◌}
use mathlib.Core.Logic.{inl, inr, ⊎_elim}
use mathlib.Core.List.{List, [], ◌∷◌, ◌++◌, map, map-append, map-map}
use Prim.Native.Nat.{ℕ, suc, ◌/◌}
use native.Mathlib.Omega.{arith}
use lib.Dec.{eqb, lit<}
use lib.ListN.{length, length-map}
use borrow.Author.Tests.{eq-eqb, ne_eqb}
use Rattle.rules.specs.Lists.{any, repeats, concat_map, entries, cut, up_from, Key, key_of, same, distinct}
use Rattle.rules.specs.Mesh.{Mesh, hex, quad, segment, topology, whole, singles, places, by_dimension}
use Rattle.rules.specs.Split.{corners_at, key_at, met}
use Rattle.lists.specs.Membership.{In}
use Rattle.lists.proofs.Once.{length_within}
use Rattle.lists.proofs.Membership.{concat_map_same}
use Rattle.lists.proofs.Tests.{false≢true}
use Rattle.lists.proofs.Keys.{any_key, repeats_once_keys}
use Rattle.lists.proofs.Distinct.{in_distinct, once_distinct, distinct_once}
use Rattle.lists.proofs.Tables.{length_entry, length_cut}
use Rattle.soundness.proofs.Cells.{key_whole}
use Rattle.numbering.specs.declared.parts.Parts.{Parts}
use Rattle.numbering.specs.declared.parts.Parts.TheVariants.{HexEdges, HexFaces, Hexes, QuadEdges, Quads, Segments, SegmentFaces, Points}
use Rattle.numbering.specs.Parts.{kind_of, dimension_of, places_of, part_corners, cell_corners, part_keys, table_keys}
use Rattle.numbering.specs.Count.{edge_keys}
use Rattle.checks.specs.Walk.{parts_of}
use Rattle.checks.proofs.WalkLaws.{met_tables}

-- where a key repeats, one of its places can be left out
record Shorter (ks : List Key) : Type 0 where
  rest : List Key
  one_less : length ks ≡ suc (length rest)
  all : (k : Key) → In k ks → In k rest

shorter : (ks : List Key) → repeats same ks ≡ true → Shorter ks
unfolding repeats
shorter [] h = absurd (false≢true h)
shorter (x ∷ ks) h = go (any (same x) ks) refl h (shorter ks)
  where
    go : (b : Bool) → any (same x) ks ≡ b → (b || repeats same ks) ≡ true → (repeats same ks ≡ true → Shorter ks) → Shorter (x ∷ ks)
    go true e k ih = record {
      rest = ks;
      one_less = refl;
      all = λ k i. ⊎_elim (λ (p : k ≡ x). subst (λ (z : Key). In z ks) (sym p) (any_key x ks e)) (λ (j : In k ks). j) i;
    }
    go false e k ih =
        let r = ih k in
        record {
          rest = x ∷ r.rest;
          one_less = ap suc r.one_less;
          all = λ k i. ⊎_elim (λ (p : k ≡ x). inl p) (λ (j : In k ks). inr (r.all k j)) i;
        }

repeats_by_count : (ks : List Key) → repeats same ks ≡ not (eqb (length (distinct ks)) (length ks))
repeats_by_count ks = go (repeats same ks) refl
  where
    go : (b : Bool) → repeats same ks ≡ b → b ≡ not (eqb (length (distinct ks)) (length ks))
    go true e =
        let r = shorter ks e in
        let l = length_within (distinct ks) r.rest (once_distinct ks) (λ k i. r.all k (in_distinct ks k i)) in
        sym (ap not (ne_eqb (length (distinct ks)) (length ks) (λ q. omega (arith, r.one_less))))
    go false e = sym (ap not (eq-eqb (length (distinct ks)) (length ks) (ap length (distinct_once ks (repeats_once_keys ks e)))))

-- the same of the cells of a table
pub duplicates_by_count : (k : ℕ) (cells : List ℕ) (n : ℕ) → n ≡ length (distinct (map key_of (cut k cells)))
    → not (eqb n (length cells / k)) ≡ repeats same (map key_of (cut k cells))
duplicates_by_count k cells n e =
    rw (e, sym (length-map (cut k cells) key_of ∙ length_cut k cells)) (sym (repeats_by_count (map key_of (cut k cells))))

-- ---- the keys that the numbering counts

module _ {A B C : Type 0} where
  map_concat_map : (g : B → C) (f : A → List B) (xs : List A) → map g (concat_map f xs) ≡ concat_map (λ (x : A). map g (f x)) xs
  unfolding concat_map
  map_concat_map g f [] = refl
  map_concat_map g f (x ∷ xs) = map-append g (f x) (concat_map f xs) ∙ ap (λ (l : List C). map g (f x) ++ l) (map_concat_map g f xs)

-- of the parts of a table
part_keys_lem : (of : Parts) (table : List ℕ) → table_keys of table ≡ map key_of (parts_of (kind_of of) (dimension_of of) table)
unfolding table_keys part_keys parts_of key_at
part_keys_lem of table =
    sym (map_concat_map key_of (λ (cell : List ℕ). map (corners_at cell) (places_of of)) (cut (cell_corners of) table)
    ∙ concat_map_same (λ (cell : List ℕ). map key_of (map (corners_at cell) (places_of of))) (part_keys of) (cut (cell_corners of) table) (λ cell i. map-map key_of (corners_at cell) (places_of of)))

-- of the cells themselves
cell_places : (of : Parts) → part_corners of ≡ cell_corners of → places_of of ≡ whole (kind_of of) ∷ []
unfolding places by_dimension singles whole up_from
cell_places HexEdges e = absurd (omega arith)
cell_places HexFaces e = absurd (omega arith)
cell_places Hexes e = refl
cell_places QuadEdges e = absurd (omega arith)
cell_places Quads e = refl
cell_places Segments e = refl
cell_places SegmentFaces e = absurd (omega arith)
cell_places Points e = refl

module _ {A B : Type 0} where
  concat_singles : (f : A → B) (xs : List A) → concat_map (λ (x : A). f x ∷ []) xs ≡ map f xs
  unfolding concat_map
  concat_singles f [] = refl
  concat_singles f (x ∷ xs) = ap (λ (l : List B). f x ∷ l) (concat_singles f xs)

pub cell_keys : (of : Parts) → part_corners of ≡ cell_corners of → (table : List ℕ) → table_keys of table ≡ map key_of (cut (cell_corners of) table)
unfolding table_keys part_keys
cell_keys of e table =
    concat_map_same (part_keys of) (λ (cell : List ℕ). key_of cell ∷ []) (cut (cell_corners of) table)
    (λ cell i. rw (cell_places of e, key_whole (kind_of of) cell (length_entry (cell_corners of) table cell i)))
    ∙ concat_singles key_of (cut (cell_corners of) table)

-- of all edges and of all faces
pub edge_keys_lem : (m : Mesh) → edge_keys m.hexes m.quads m.segments ≡ map key_of (met (topology m) 1)
unfolding edge_keys
edge_keys_lem m =
    let H = parts_of hex 1 m.hexes in
    let Q = parts_of quad 1 m.quads in
    let S = parts_of segment 1 m.segments in
    rw (part_keys_lem HexEdges m.hexes, part_keys_lem QuadEdges m.quads, part_keys_lem Segments m.segments)
    (sym (ap (map key_of) (met_tables 1 (lit< tt) m) ∙ map-append key_of H (Q ++ S)
    ∙ ap (λ (l : List Key). map key_of H ++ l) (map-append key_of Q S)))

segments_only : (hs qs ss : List ℕ) → length hs ≡ 0 → length qs ≡ 0 → edge_keys hs qs ss ≡ table_keys Segments ss
unfolding edge_keys table_keys cut concat_map entries
segments_only (x ∷ hs) qs ss a b = absurd (omega arith)
segments_only [] (x ∷ qs) ss a b = absurd (omega arith)
segments_only [] [] ss a b = refl

-- segments that are all different are as many edges
pub segments_alone : (m : Mesh) → length m.hexes ≡ 0 → length m.quads ≡ 0 → repeats same (map key_of (cut 2 m.segments)) ≡ false
    → length (distinct (map key_of (met (topology m) 1))) ≡ length m.segments / 2
segments_alone m a b h =
    let ks = map key_of (cut 2 m.segments) in
    ap (λ (l : List Key). length (distinct l)) (sym (edge_keys_lem m) ∙ segments_only m.hexes m.quads m.segments a b ∙ cell_keys Segments refl m.segments)
    ∙ ap length (distinct_once ks (repeats_once_keys ks h))
    ∙ length-map (cut 2 m.segments) key_of
    ∙ length_cut 2 m.segments
