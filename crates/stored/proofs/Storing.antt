-- What the code stores, table by table, is what reading leaves; what it puts, part by part, is what writing leaves.
use Prim.Native.Nat.{ℕ, ◌+◌, ◌*◌, ◌/◌, ◌^◌, ◌≤◌, ◌<◌}
use mathlib.Core.Path.{◌≡◌, refl, sym, ap, ap₂, subst, ◌∙◌}
use mathlib.Core.Bool.{false}
use mathlib.Core.List.{List, ◌++◌, map}
use native.Mathlib.Omega.{arith}
use lib.Dec.{ltb}
use lib.ListN.{length, get_or, length-map}
use lib.IntN.{ℤ, pos}
use Rattle.std.specs.List.{All}
use Rattle.std.proofs.lemmas.List.{map-id}
use Rattle.std.proofs.lemmas.List.Elements.{All-from_get_or}
use borrow.Author.Tests.{ltb-false}
use Rattle.rules.specs.declared.Counts.{Counts}
use Rattle.rules.specs.Lists.{overwritten}
use Rattle.rules.specs.Mesh.{Mesh, mesh}
use Rattle.rules.specs.Counts.{counts_of, out_of_range, fewer}
use Rattle.rules.specs.Refusals.{outside, table_checks}
use Rattle.rules.specs.EntryPoints.{result_tables}
use Rattle.rules.specs.Bits.{table_at, Field, bits_in}
use Rattle.rules.specs.StoredForm.{to_field, of_field, Header, table_fields, header_fields, index_width, mesh_fields, stored_form, header_of, layout, stored_mesh, reading_refusal}
use Rattle.lists.proofs.Tests.{or_neither}
use Rattle.checks.proofs.Passed.{TablesPass, tables_pass}
use Rattle.tables.specs.Lent.{Room}
use Rattle.bits.specs.Writing.{Bytes, put_all}
use Rattle.bits.proofs.Fields.{bytes_for_ge}
use Rattle.bits.proofs.Coordinates.{to_field_lt}
use Rattle.bits.proofs.Encoding.{bits_in_append, bits_in_table, length_encode}
use Rattle.bits.proofs.Writing.{put_encode, put_all_append}
use Rattle.stored.specs.declared.layout.Layout.{Layout}
use Rattle.stored.specs.Form.{header_for, Laid}
use Rattle.stored.proofs.Acceptance.{reading_accepted, pass_range}
use Rattle.stored.proofs.Bounds.{Small, small}
use Rattle.stored.proofs.BodyChecks.{Body, body_known}
use Rattle.stored.proofs.Form.{tables_under, bits_header, bits_tables}
use Rattle.stored.proofs.Inverse.{fits, mesh_fields_lem, fit_mesh, stored_bits}

-- ---- reading

-- lent tables have room for the counts
room : (c : Counts) (t : Mesh) → fewer (counts_of t) c ≡ false → Room c t
unfolding fewer counts_of
room c t e =
    let a = or_neither (ltb (length t.vertices / 3) c.vertices) _ e in
    let b = or_neither (ltb (length t.hexes / 8) c.hexes) _ a.1 in
    let d = or_neither (ltb (length t.quads / 4) c.quads) _ b.1 in
    let f = or_neither (ltb (length t.segments / 2) c.segments) _ d.1 in
    record {
      vertices = omega (arith, ltb-false (length t.vertices / 3) c.vertices a.0);
      hexes = omega (arith, ltb-false (length t.hexes / 8) c.hexes b.0);
      quads = omega (arith, ltb-false (length t.quads / 4) c.quads d.0);
      segments = omega (arith, ltb-false (length t.segments / 2) c.segments f.0);
      points = omega (arith, ltb-false (length t.points / 1) c.points f.1);
    }

pub record Storable (s : List ℕ) (c : Counts) (at : Layout) (t : Mesh) : Type 0 where
  pub body : Body s c at
  pub long : at.end ≤ 8 * length s
  pub room : Room c t

pub storable : (s : List ℕ) (c : Counts) (at : Layout) (t : Mesh) → (header_of s).counts ≡ c → reading_refusal s (counts_of t) ≡ 0 → Laid c at → Storable s c at t
storable s c at t e none l =
    let a = reading_accepted s (counts_of t) none in
    let b = body_known s c at a.0.head e l in
    record {
      body = b;
      long = omega (arith, a.0.body.whole, b.bytes, b.numbers.fits);
      room = room c t (ap (fewer (counts_of t)) (sym e) ∙ a.1);
    }

-- the five tables as the code stores them; an index is its own field
pub stored_tables : (s : List ℕ) (c : Counts) (at : Layout) (t : Mesh) → Body s c at
    → mesh
    (overwritten t.vertices (map of_field (table_at s 101 30 (3 * c.vertices))))
    (overwritten t.hexes (map (λ (x : ℕ). x) (table_at s at.hexes at.width (8 * c.hexes))))
    (overwritten t.quads (map (λ (x : ℕ). x) (table_at s at.quads at.width (4 * c.quads))))
    (overwritten t.segments (map (λ (x : ℕ). x) (table_at s at.segments at.width (2 * c.segments))))
    (overwritten t.points (map (λ (x : ℕ). x) (table_at s at.points at.width c.points)))
    ≡ result_tables 0 t (stored_mesh s)
unfolding result_tables stored_mesh layout
stored_tables s c at t b =
    let counts : c ≡ (header_of s).counts = ap (λ h. h.counts) (sym b.header) in
    rw (
      map-id (table_at s at.hexes at.width (8 * c.hexes)),
      map-id (table_at s at.quads at.width (4 * c.quads)),
      map-id (table_at s at.segments at.width (2 * c.segments)),
      map-id (table_at s at.points at.width c.points),
      b.hexes,
      b.quads,
      b.segments,
      b.points,
      b.width,
      counts,
    )

-- ---- writing

-- fields, and others behind them
put_then : (fs gs : List Field) (d d₁ : List ℕ) (p q n : ℕ) → bits_in fs ≡ n → q ≡ p + n → d₁ ≡ put_all d p fs → put_all d₁ q gs ≡ put_all d p (fs ++ gs)
put_then fs gs d d₁ p q n b e h =
    ap₂ (λ (l : List ℕ) (x : ℕ). put_all l x gs) h (e ∙ ap (λ (x : ℕ). p + x) (sym b)) ∙ sym (put_all_append fs gs d p)

-- a buffer into which the header and the five tables are put; an index is its own field
pub mesh_put : (m : Mesh) (h : Header) (d a b e f g r : List ℕ) (p₁ p₂ p₃ p₄ p₅ : ℕ)
    → (p₁ ≡ 101) × (a ≡ put_all d 0 (header_fields h))
    → (p₂ ≡ p₁ + 30 * length m.vertices) × (b ≡ put_all a p₁ (table_fields 30 (map to_field m.vertices)))
    → (p₃ ≡ p₂ + h.width * length m.hexes) × (e ≡ put_all b p₂ (table_fields h.width (map (λ (x : ℕ). x) m.hexes)))
    → (p₄ ≡ p₃ + h.width * length m.quads) × (f ≡ put_all e p₃ (table_fields h.width (map (λ (x : ℕ). x) m.quads)))
    → (p₅ ≡ p₄ + h.width * length m.segments) × (g ≡ put_all f p₄ (table_fields h.width (map (λ (x : ℕ). x) m.segments)))
    → r ≡ put_all g p₅ (table_fields h.width (map (λ (x : ℕ). x) m.points))
    → r ≡ put_all d 0 (header_fields h ++ tables_under h m)
mesh_put m h d a b e f g r p₁ p₂ p₃ p₄ p₅ e₁ e₂ e₃ e₄ e₅ last =
    let w = h.width in
    let same : (x : List ℕ) (p : ℕ) (t : List ℕ) → put_all x p (table_fields w (map (λ (x : ℕ). x) t)) ≡ put_all x p (table_fields w t) =
    λ x p t. ap (λ (l : List ℕ). put_all x p (table_fields w l)) (map-id t) in
    let bits : bits_in (table_fields 30 (map to_field m.vertices)) ≡ 30 * length m.vertices =
    bits_in_table 30 (map to_field m.vertices) ∙ ap (λ (n : ℕ). 30 * n) (length-map m.vertices to_field) in
    last ∙ same g p₅ m.points
    ∙ put_then (table_fields w m.segments) _ f g p₄ p₅ (w * length m.segments) (bits_in_table w m.segments) e₅.0 (e₅.1 ∙ same f p₄ m.segments)
    ∙ put_then (table_fields w m.quads) _ e f p₃ p₄ (w * length m.quads) (bits_in_table w m.quads) e₄.0 (e₄.1 ∙ same e p₃ m.quads)
    ∙ put_then (table_fields w m.hexes) _ b e p₂ p₃ (w * length m.hexes) (bits_in_table w m.hexes) e₃.0 (e₃.1 ∙ same b p₂ m.hexes)
    ∙ put_then (table_fields 30 (map to_field m.vertices)) _ a b p₁ p₂ (30 * length m.vertices) bits e₂.0 e₂.1
    ∙ put_then (header_fields h) _ d a 0 p₁ 101 (bits_header h) e₁.0 e₁.1

-- is a buffer with the mesh's stored form at its front
pub mesh_written : (m : Mesh) (d : List ℕ) → Bytes d → TablesPass m
    → let h = header_for (counts_of m) in put_all d 0 (header_fields h ++ tables_under h m) ≡ overwritten d (stored_form m)
unfolding stored_form
mesh_written m d hd w = ap (put_all d 0) (sym (mesh_fields_lem m)) ∙ put_encode (mesh_fields m) d hd (fit_mesh m w)

-- the bits of the header and the five tables
abbrev pub bits_of : ℕ → Mesh → ℕ
bits_of w m = 101 + (30 * length m.vertices + (w * length m.hexes + (w * length m.quads + (w * length m.segments + w * length m.points))))

-- lie in a buffer that has room for the stored form
pub put_room : (m : Mesh) (d : List ℕ) → TablesPass m → length (stored_form m) ≤ length d
    → let bits = bits_of (index_width (counts_of m)) m in (bits ≤ 8 * length d) × (bits ≤ 2 ^ 60)
unfolding stored_form layout
put_room m d w l =
    let h = header_for (counts_of m) in
    let bits : bits_in (mesh_fields m) ≡ bits_of (index_width (counts_of m)) m =
    ap bits_in (mesh_fields_lem m) ∙ bits_in_append (header_fields h) (tables_under h m) ∙ ap₂ (λ (x y : ℕ). x + y) (bits_header h) (bits_tables h m) in
    let c = counts_of m in
    let s = small (index_width c) c (pass_range m w) refl in
    (omega (arith, length_encode (mesh_fields m), bytes_for_ge (bits_in (mesh_fields m)), bits), omega (arith, bits, stored_bits m w, s.range.vertices, s.hexes, s.quads, s.segments, s.points))

-- what is known of a mesh that is put, with its counts and its width
pub record Putting (m : Mesh) (c : Counts) (w : ℕ) (d : List ℕ) : Type 0 where
  pub passes : TablesPass m
  pub width : w ≡ index_width (counts_of m)
  pub small : Small w c
  pub room : (bits_of w m ≤ 8 * length d) × (bits_of w m ≤ 2 ^ 60)
  pub vertices : All (λ (z : ℤ). (outside z ≡ false) × (to_field z < 2 ^ 30)) m.vertices
  pub hexes : All (λ (x : ℕ). Unit {0} × (x < 2 ^ w)) m.hexes
  pub quads : All (λ (x : ℕ). Unit {0} × (x < 2 ^ w)) m.quads
  pub segments : All (λ (x : ℕ). Unit {0} × (x < 2 ^ w)) m.segments
  pub points : All (λ (x : ℕ). Unit {0} × (x < 2 ^ w)) m.points

pub putting : (m : Mesh) (c : Counts) (w : ℕ) (d : List ℕ)
    → (table_checks m 0 ≡ 0) × (c ≡ counts_of m) × (w ≡ index_width c) × (length (stored_form m) ≤ length d) → Putting m c w d
putting m c w d h =
    let passes = tables_pass m h.0 in
    let width : w ≡ index_width (counts_of m) = h.2 ∙ ap index_width h.1 in
    let f = fits m passes in
    let below : (t : List ℕ) → ((i : ℕ) → get_or t i 0 < 2 ^ index_width (counts_of m)) → All (λ (x : ℕ). Unit {0} × (x < 2 ^ w)) t =
    λ t b. All-from_get_or (λ (x : ℕ). Unit {0} × (x < 2 ^ w)) t 0 (λ i l. (tt, subst (λ (k : ℕ). get_or t i 0 < 2 ^ k) (sym width) (b i))) in
    record {
      passes = passes;
      width = width;
      small = small w c (ap out_of_range h.1 ∙ pass_range m passes) h.2;
      room = subst (λ (k : ℕ). (bits_of k m ≤ 8 * length d) × (bits_of k m ≤ 2 ^ 60)) (sym width) (put_room m d passes h.3);
      vertices =
          All-from_get_or (λ (z : ℤ). (outside z ≡ false) × (to_field z < 2 ^ 30)) m.vertices (pos 0)
          (λ i l. (f.vertices i, to_field_lt (get_or m.vertices i (pos 0)) (f.vertices i)));
      hexes = below m.hexes f.hexes;
      quads = below m.quads f.quads;
      segments = below m.segments f.segments;
      points = below m.points f.points;
    }
