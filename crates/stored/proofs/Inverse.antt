-- Reading and writing undo each other: a file that was accepted is the stored form of its mesh, which writing accepts (`writes_back`); and
-- the stored form of a mesh that was accepted is accepted, and gives the mesh (`reads_back`).
use Prim.Native.Nat.{ℕ, suc, ◌+◌, ◌-◌, ◌*◌, ◌%◌, ◌^◌, ◌≤◌, ◌<◌}
use mathlib.Core.Path.{◌≡◌, refl, sym, ap, ap₂, ◌∙◌, subst}
use mathlib.Core.Bool.{Bool, false}
use mathlib.Core.List.{List, [], ◌∷◌, ◌++◌, map}
use native.Mathlib.Decide.{dec_lt}
use native.Mathlib.Nat.{lt_of_le_of_lt}
use native.Mathlib.Omega.{arith}
use lib.IntN.{ℤ, pos}
use lib.Dec.{leb, ltb, lit<}
use lib.ListN.{length, get_or, get_or-eq_default}
use borrow.Author.Tests.{leb-false, le-ltb, lt-leb}
use Rattle.rules.specs.declared.Counts.{Counts}
use Rattle.rules.specs.Lists.{any}
use Rattle.rules.specs.Mesh.{Mesh, topology}
use Rattle.rules.specs.Counts.{counts_of, out_of_range, fewer}
use Rattle.rules.specs.Refusals.{partial_entry, count_out_of_range, outside, coordinate_out_of_range, corner_out_of_range}
use Rattle.rules.specs.Bits.{number, bytes_for, filling, table_at, Field, bits_in, encode, width_of}
use Rattle.rules.specs.StoredForm.{to_field, of_field, table_fields, header_fields, index_width, mesh_fields, stored_form, header_of, layout, stored_mesh, reading_refusal, writing_refusal}
use Rattle.lists.proofs.Tests.{at_none, none_at, or_neither}
use Rattle.integers.proofs.Range.{inside}
use Rattle.soundness.proofs.Rounds.{in_range_lem}
use Rattle.checks.proofs.Passed.{TablesPass}
use Rattle.checks.proofs.ByKind.{corner_tables}
use Rattle.bits.specs.Writing.{Bytes, Fit}
use Rattle.bits.proofs.Fields.{bytes_for_ge}
use Rattle.bits.proofs.IndexWidth.{width_le, width_holds}
use Rattle.bits.specs.Entries.{of_field_to_field}
use Rattle.bits.proofs.Coordinates.{to_field_lt, of_field_near, get_or_to_field, get_or_of_field}
use Rattle.bits.proofs.Encoding.{Stand, bits_in_append, fit_append, fit_table, length_encode, encode_filling, encoded_stand, stand_encoded, stand_parts}
use Rattle.stored.specs.Form.{header_for}
use Rattle.stored.proofs.Acceptance.{Accepted, reading_accepts, passing, pass_range, pass_near}
use Rattle.stored.proofs.Form.{tables_under, mesh_under, stored_under, under_sized, sized_counts, sized_whole, whole_sized, bits_under, bits_header, table_lt, under_stands, standing_header, standing_mesh}

-- ---- numbers of a table

module _ {A : Type 0} where
  -- a test that no element passes, nor the default
  none_all : (p : A → Bool) (xs : List A) (d : A) → any p xs ≡ false → p d ≡ false → (i : ℕ) → p (get_or xs i d) ≡ false
  none_all p xs d h e i = elim (dec_lt i (length xs)) [
    | yes l ↦ none_at p xs d h i l
    | no f ↦ ap p (get_or-eq_default xs d {n = i} (omega arith)) ∙ e
  ]

-- a corner has the index width
corner_lt : (v : ℕ) (t : List ℕ) → 0 < v → any (leb v) t ≡ false → (i : ℕ) → get_or t i 0 < 2 ^ width_of (v - 1)
corner_lt v t h e i =
    let below : get_or t i 0 < v = leb-false v (get_or t i 0) (none_all (leb v) t 0 e (lt-leb v 0 h) i) in
    lt_of_le_of_lt (omega arith) (width_holds (v - 1))

-- ---- a mesh that passed its checks

pub record Fits (m : Mesh) : Type 0 where
  pub vertices : (i : ℕ) → outside (get_or m.vertices i (pos 0)) ≡ false
  pub hexes : (i : ℕ) → get_or m.hexes i 0 < 2 ^ index_width (counts_of m)
  pub quads : (i : ℕ) → get_or m.quads i 0 < 2 ^ index_width (counts_of m)
  pub segments : (i : ℕ) → get_or m.segments i 0 < 2 ^ index_width (counts_of m)
  pub points : (i : ℕ) → get_or m.points i 0 < 2 ^ index_width (counts_of m)

pub fits : (m : Mesh) → TablesPass m → Fits m
unfolding outside index_width counts_of
fits m w =
    let v : ℕ = (counts_of m).vertices in
    let some : 0 < v = (in_range_lem (counts_of m) (pass_range m w)).some in
    let e = sym (corner_tables m w.whole) ∙ w.known in
    let a = or_neither (any (leb v) m.hexes) _ e in
    let b = or_neither (any (leb v) m.quads) _ a.1 in
    let c = or_neither (any (leb v) m.segments) _ b.1 in
    record {
      vertices = none_all outside m.vertices (pos 0) (pass_near m w) refl;
      hexes = corner_lt v m.hexes some a.0;
      quads = corner_lt v m.quads some b.0;
      segments = corner_lt v m.segments some c.0;
      points = corner_lt v m.points some c.1;
    }

-- the fields of a mesh, under the header that it calls for
pub mesh_fields_lem : (m : Mesh) → let h = header_for (counts_of m) in mesh_fields m ≡ header_fields h ++ tables_under h m
unfolding mesh_fields
mesh_fields_lem m = refl

fit_header : (c : Counts) → out_of_range c ≡ false → Fit (header_fields (header_for c))
unfolding header_fields index_width
fit_header c e =
    let r = in_range_lem c e in
    let w : width_of (c.vertices - 1) ≤ 20 = width_le 20 (c.vertices - 1) (omega arith) (omega (arith, r.vertices)) in
    (lit< tt, (omega arith, (omega (arith, r.vertices), (omega (arith, r.hexes), (omega (arith, r.quads), (omega (arith, r.segments), (omega (arith, r.points), tt)))))))

pub fit_mesh : (m : Mesh) → TablesPass m → Fit (mesh_fields m)
fit_mesh m w =
    let f = fits m w in
    let h = header_for (counts_of m) in
    let C = map to_field m.vertices in
    let coordinates : Fit (table_fields 30 C) =
    fit_table 30 C (λ i. subst (λ (x : ℕ). x < 2 ^ 30) (sym (get_or_to_field m.vertices i)) (to_field_lt (get_or m.vertices i (pos 0)) (f.vertices i))) in
    subst (λ (fs : List Field). Fit fs) (sym (mesh_fields_lem m))
    (fit_append (header_fields h) (tables_under h m) (fit_header (counts_of m) (pass_range m w))
    (fit_append (table_fields 30 C) _ coordinates
    (fit_append (table_fields h.width m.hexes) _ (fit_table h.width m.hexes f.hexes)
    (fit_append (table_fields h.width m.quads) _ (fit_table h.width m.quads f.quads)
    (fit_append (table_fields h.width m.segments) _ (fit_table h.width m.segments f.segments)
    (fit_table h.width m.points f.points))))))

-- how long the stored form is
pub stored_bits : (m : Mesh) → TablesPass m → bits_in (mesh_fields m) ≡ (layout (header_for (counts_of m))).end
stored_bits m w = ap bits_in (mesh_fields_lem m) ∙ bits_under (header_for (counts_of m)) m (whole_sized m w.whole)

pub stored_length : (m : Mesh) → TablesPass m → length (stored_form m) ≡ bytes_for (layout (header_for (counts_of m))).end
unfolding stored_form
stored_length m w = length_encode (mesh_fields m) ∙ ap bytes_for (stored_bits m w)

-- ---- what reading accepted, written again

module _ (s : List ℕ) (a : Accepted s) where
  header_again : header_for (counts_of (stored_mesh s)) ≡ header_of s
  header_again =
      let h = header_of s in
      ap (λ m. header_for (counts_of m)) (stored_under s)
      ∙ ap header_for (sized_counts h (mesh_under s h) (under_sized s h))
      ∙ sym a.head.header

  pub same_bytes : Bytes s → stored_form (stored_mesh s) ≡ s
  unfolding stored_form
  same_bytes bytes =
      let h = header_of s in
      let fs = header_fields h ++ tables_under h (mesh_under s h) in
      let fields : mesh_fields (stored_mesh s) ≡ fs =
      mesh_fields_lem (stored_mesh s) ∙ ap₂ (λ x m. header_fields x ++ tables_under x m) header_again (stored_under s) in
      let end : bits_in fs ≡ (layout h).end = bits_under h (mesh_under s h) (under_sized s h) in
      ap encode fields
      ∙ stand_encoded fs s bytes (under_stands s) (a.body.whole ∙ ap bytes_for (sym end))
      (ap (λ (n : ℕ). number s % 2 ^ filling n) end ∙ a.body.zeros)

  pub passes_again : TablesPass (stored_mesh s)
  unfolding count_out_of_range coordinate_out_of_range
  passes_again =
      let h = header_of s in
      let c = h.counts in
      let T = table_at s (layout h).vertices 30 (3 * c.vertices) in
      let near : any outside (mesh_under s h).vertices ≡ false =
      at_none outside (map of_field T) (pos 0) (λ i l.
      ap outside (get_or_of_field T i) ∙ (inside (of_field (get_or T i 0))).1 (of_field_near (get_or T i 0) (table_lt s (layout h).vertices 30 (3 * c.vertices) i))) in
      record {
        whole = ap partial_entry (stored_under s) ∙ sized_whole h (mesh_under s h) (under_sized s h);
        counts = ap out_of_range (ap counts_of (stored_under s) ∙ sized_counts h (mesh_under s h) (under_sized s h)) ∙ a.head.range;
        inside = ap (λ m. any outside m.vertices) (stored_under s) ∙ near;
        known = a.body.corners;
      }

  pub writes_back : Bytes s → let m = stored_mesh s in (writing_refusal m (length s) ≡ 0) × (stored_form m ≡ s)
  unfolding writing_refusal
  writes_back bytes =
      let m = stored_mesh s in
      let again = same_bytes bytes in
      let room : ltb (length s) (length (stored_form m)) ≡ false = le-ltb (length s) (length (stored_form m)) (omega (arith, ap length again)) in
      (passing m _ passes_again ∙ rw room, again)

-- ---- what writing accepted, read back

-- tables have places for what they hold
enough : (c : Counts) → fewer c c ≡ false
unfolding fewer
enough c =
    rw (
      le-ltb c.vertices c.vertices (omega arith),
      le-ltb c.hexes c.hexes (omega arith),
      le-ltb c.quads c.quads (omega arith),
      le-ltb c.segments c.segments (omega arith),
      le-ltb c.points c.points (omega arith),
    )

coordinates_again : (xs : List ℤ) → ((i : ℕ) → outside (get_or xs i (pos 0)) ≡ false) → map of_field (map to_field xs) ≡ xs
coordinates_again [] h = refl
coordinates_again (z ∷ xs) h = ap₂ (λ (x : ℤ) (l : List ℤ). x ∷ l) (of_field_to_field z (h 0)) (coordinates_again xs (λ i. h (suc i)))

module _ (m : Mesh) (w : TablesPass m) where
  stands : let h = header_for (counts_of m) in Stand (stored_form m) 0 (header_fields h) × Stand (stored_form m) 101 (tables_under h m)
  unfolding stored_form
  stands =
      let h = header_for (counts_of m) in
      let all : Stand (stored_form m) 0 (header_fields h ++ tables_under h m) =
      subst (λ (fs : List Field). Stand (stored_form m) 0 fs) (mesh_fields_lem m) (encoded_stand (mesh_fields m) (fit_mesh m w)) in
      let parts = stand_parts (header_fields h) (tables_under h m) (stored_form m) 0 all in
      (parts.0, subst (λ (p : ℕ). Stand (stored_form m) p (tables_under h m)) (ap (λ (n : ℕ). 0 + n) (bits_header h)) parts.1)

  header_back : header_of (stored_form m) ≡ header_for (counts_of m)
  header_back = standing_header (stored_form m) (header_for (counts_of m)) stands.0

  pub same_mesh : stored_mesh (stored_form m) ≡ m
  same_mesh =
      let s = stored_form m in
      stored_under s ∙ ap (mesh_under s) header_back
      ∙ standing_mesh s (header_for (counts_of m)) m (whole_sized m w.whole) (coordinates_again m.vertices (fits m w).vertices) stands.1

  pub accepted_back : Accepted (stored_form m)
  unfolding stored_form
  accepted_back =
      let s = stored_form m in
      let h = header_for (counts_of m) in
      let counts : (header_of s).counts ≡ counts_of m = ap (λ h. h.counts) header_back in
      let end : (layout (header_of s)).end ≡ bits_in (mesh_fields m) = ap (λ h. (layout h).end) header_back ∙ sym (stored_bits m w) in
      let long = length_encode (mesh_fields m) in
      record {
        head = record {
          long = omega (arith, long, bytes_for_ge (bits_in (mesh_fields m)), ap bits_in (mesh_fields_lem m), bits_in_append (header_fields h) (tables_under h m), bits_header h);
          range = ap out_of_range counts ∙ pass_range m w;
          header = header_back ∙ ap header_for (sym counts);
        };
        body = record {
          whole = long ∙ ap bytes_for (sym end);
          zeros = ap (λ (n : ℕ). number s % 2 ^ filling n) end ∙ encode_filling (mesh_fields m) (fit_mesh m w);
          corners = ap (λ x. corner_out_of_range (topology x)) same_mesh ∙ w.known;
        };
      }

  pub reads_back : let s = stored_form m in (reading_refusal s (counts_of m) ≡ 0) × (stored_mesh s ≡ m)
  reads_back =
      let counts : (header_of (stored_form m)).counts ≡ counts_of m = ap (λ h. h.counts) header_back in
      (reading_accepts (stored_form m) (counts_of m) accepted_back (ap (fewer (counts_of m)) counts ∙ enough (counts_of m)), same_mesh)
