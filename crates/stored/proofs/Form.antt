-- The fields of a mesh stand in a file where the layout says.
use Prim.Native.Nat.{ℕ, zero, suc, ◌+◌, ◌*◌, ◌/◌, ◌%◌, ◌^◌, ◌<◌}
use mathlib.Core.Path.{◌≡◌, refl, sym, ap, ap₂, ◌∙◌, subst}
use mathlib.Core.List.{List, [], ◌∷◌, ◌++◌, map}
use native.Mathlib.Omega.{arith}
use lib.ListN.{length, take, drop, get_or, length-map}
use lib.Seq.{take_at}
use lib.Pow.{pow_pos}
use Rattle.rules.specs.Lists.{overwritten}
use Rattle.rules.specs.Mesh.{Mesh, mesh, hex, quad, segment}
use Rattle.rules.specs.Refusals.{partial_entry}
use Rattle.checks.proofs.ByKind.{whole_tables}
use Rattle.lists.proofs.Tests.{or_neither}
use Rattle.stored.specs.Form.{header_for}
use borrow.Author.Tests.{eq-eqb, eqb-true, not-false}
use mathlib.Core.Bool.{false, not}
use lib.Dec.{eqb}
use Rattle.rules.specs.Counts.{counts_of}
use Rattle.rules.specs.EntryPoints.{front_of, front, result_tables}
use Rattle.rules.specs.Bits.{table_at, Field, bits_in}
use Rattle.rules.specs.StoredForm.{to_field, of_field, Header, table_fields, header_fields, header_of, layout, stored_mesh}
use Rattle.bits.proofs.Fields.{field_lt}
use Rattle.bits.proofs.Tables.{length_table_at}
use Rattle.bits.proofs.Coordinates.{to_field_of_field}
use Rattle.bits.proofs.Encoding.{Stand, bits_in_append, bits_in_table, stand_append, stand_parts, table_stands, standing_table}

-- ---- the fields of a mesh under a header, and the mesh that stands in a file under a header

abbrev pub tables_under : Header → Mesh → List Field
tables_under h m =
    table_fields 30 (map to_field m.vertices)
    ++ (table_fields h.width m.hexes
    ++ (table_fields h.width m.quads
    ++ (table_fields h.width m.segments
    ++ table_fields h.width m.points)))

abbrev pub mesh_under : List ℕ → Header → Mesh
mesh_under s h =
    let at = layout h in
    let c = h.counts in
    record {
      vertices = map of_field (table_at s at.vertices 30 (3 * c.vertices));
      hexes = table_at s at.hexes h.width (8 * c.hexes);
      quads = table_at s at.quads h.width (4 * c.quads);
      segments = table_at s at.segments h.width (2 * c.segments);
      points = table_at s at.points h.width c.points;
    }

pub stored_under : (s : List ℕ) → stored_mesh s ≡ mesh_under s (header_of s)
unfolding stored_mesh
stored_under s = refl

-- ---- lengths

-- the tables have the lengths that the header gives
pub record Sized (h : Header) (m : Mesh) : Type 0 where
  pub vertices : length m.vertices ≡ 3 * h.counts.vertices
  pub hexes : length m.hexes ≡ 8 * h.counts.hexes
  pub quads : length m.quads ≡ 4 * h.counts.quads
  pub segments : length m.segments ≡ 2 * h.counts.segments
  pub points : length m.points ≡ h.counts.points

pub under_sized : (s : List ℕ) (h : Header) → Sized h (mesh_under s h)
under_sized s h =
    let at = layout h in
    let c = h.counts in
    record {
      vertices = length-map (table_at s at.vertices 30 (3 * c.vertices)) of_field ∙ length_table_at s at.vertices 30 (3 * c.vertices);
      hexes = length_table_at s at.hexes h.width (8 * c.hexes);
      quads = length_table_at s at.quads h.width (4 * c.quads);
      segments = length_table_at s at.segments h.width (2 * c.segments);
      points = length_table_at s at.points h.width c.points;
    }

pub sized_counts : (h : Header) (m : Mesh) → Sized h m → counts_of m ≡ h.counts
unfolding counts_of
sized_counts h m z =
    let c = h.counts in
    let v : length m.vertices / 3 ≡ c.vertices = omega (arith, z.vertices) in
    let x : length m.hexes / 8 ≡ c.hexes = omega (arith, z.hexes) in
    let q : length m.quads / 4 ≡ c.quads = omega (arith, z.quads) in
    let g : length m.segments / 2 ≡ c.segments = omega (arith, z.segments) in
    let p : length m.points / 1 ≡ c.points = omega (arith, z.points) in
    λ i. record { vertices = v i; hexes = x i; quads = q i; segments = g i; points = p i }

-- the front of tables in which such a mesh was stored
module _ {A : Type 0} where
  pub begins : (n : ℕ) (old new : List A) → length new ≡ n → take n (overwritten old new) ≡ new
  unfolding overwritten
  begins n old new e = take_at new (drop (length new) old) n e

pub front_result : (h : Header) (old m : Mesh) → Sized h m → front h.counts (result_tables 0 old m) ≡ m
unfolding front_of result_tables
front_result h old m z =
    let c = h.counts in
    let xs = begins (3 * c.vertices) old.vertices m.vertices z.vertices in
    let hexes = begins (8 * c.hexes) old.hexes m.hexes z.hexes in
    let quads = begins (4 * c.quads) old.quads m.quads z.quads in
    let segments = begins (2 * c.segments) old.segments m.segments z.segments in
    let points = begins c.points old.points m.points z.points in
    λ i. mesh (xs i) (hexes i) (quads i) (segments i) (points i)

-- such tables have no partial entry, and tables without one have the lengths of their counts
pub sized_whole : (h : Header) (m : Mesh) → Sized h m → partial_entry m ≡ false
unfolding partial_entry
sized_whole h m z =
    rw (
      eq-eqb (length m.vertices % 3) 0 (omega (arith, z.vertices)),
      eq-eqb (length m.hexes % 8) 0 (omega (arith, z.hexes)),
      eq-eqb (length m.quads % 4) 0 (omega (arith, z.quads)),
      eq-eqb (length m.segments % 2) 0 (omega (arith, z.segments)),
    )

pub whole_sized : (m : Mesh) → partial_entry m ≡ false → Sized (header_for (counts_of m)) m
unfolding partial_entry counts_of
whole_sized m e =
    let v = (or_neither (not (eqb (length m.vertices % 3) 0)) _ e).0 in
    let v0 : length m.vertices % 3 ≡ 0 = eqb-true (length m.vertices % 3) 0 (not-false _ v) in
    record {
      vertices = omega arith;
      hexes = omega (arith, whole_tables m e hex);
      quads = omega (arith, whole_tables m e quad);
      segments = omega (arith, whole_tables m e segment);
      points = omega arith;
    }

-- the header's fields, and where the tables end
pub bits_header : (h : Header) → bits_in (header_fields h) ≡ 101
unfolding header_fields bits_in
bits_header h = refl

pub bits_tables : (h : Header) (m : Mesh)
    → bits_in (tables_under h m)
    ≡ 30 * length m.vertices + (h.width * length m.hexes + (h.width * length m.quads + (h.width * length m.segments + h.width * length m.points)))
bits_tables h m =
    let w = h.width in
    rw (
      bits_in_append,
      bits_in_append,
      bits_in_append,
      bits_in_append,
      bits_in_table 30 (map to_field m.vertices),
      length-map m.vertices to_field,
      bits_in_table w m.hexes,
      bits_in_table w m.quads,
      bits_in_table w m.segments,
      bits_in_table w m.points,
    )

pub bits_under : (h : Header) (m : Mesh) → Sized h m → bits_in (header_fields h ++ tables_under h m) ≡ (layout h).end
unfolding layout
bits_under h m z =
    bits_in_append (header_fields h) (tables_under h m)
    ∙ rw (bits_header, bits_tables, z.vertices, z.hexes, z.quads, z.segments, z.points) (omega arith)

-- ---- fields that stand in a file

header_stands : (s : List ℕ) → Stand s 0 (header_fields (header_of s))
unfolding header_fields header_of
header_stands s = (refl, (refl, (refl, (refl, (refl, (refl, (refl, tt)))))))

pub standing_header : (s : List ℕ) (h : Header) → Stand s 0 (header_fields h) → header_of s ≡ h
unfolding header_fields header_of
standing_header s h e = λ i. record {
  form = e.0 i;
  width = e.1.0 i;
  counts = record {
    vertices = e.1.1.0 i;
    hexes = e.1.1.1.0 i;
    quads = e.1.1.1.1.0 i;
    segments = e.1.1.1.1.1.0 i;
    points = e.1.1.1.1.1.1.0 i;
  };
}

-- a table and what stands behind it
table_then : (s : List ℕ) (p q w : ℕ) (t : List ℕ) (rest : List Field) → p + w * length t ≡ q
    → Stand s p (table_fields w t) → Stand s q rest → Stand s p (table_fields w t ++ rest)
table_then s p q w t rest e h l =
    stand_append (table_fields w t) rest s p h (subst (λ (x : ℕ). Stand s x rest) (sym (ap (λ (x : ℕ). p + x) (bits_in_table w t) ∙ e)) l)

then_table : (s : List ℕ) (p q w : ℕ) (t : List ℕ) (rest : List Field) → p + w * length t ≡ q
    → Stand s p (table_fields w t ++ rest) → (table_at s p w (length t) ≡ t) × Stand s q rest
then_table s p q w t rest e h =
    let parts = stand_parts (table_fields w t) rest s p h in
    (standing_table t s p w parts.0, subst (λ (x : ℕ). Stand s x rest) (ap (λ (x : ℕ). p + x) (bits_in_table w t) ∙ e) parts.1)

-- coordinates read from fields are those fields again
fields_again : (t : List ℕ) → ((i : ℕ) → get_or t i 0 < 2 ^ 30) → map to_field (map of_field t) ≡ t
fields_again [] h = refl
fields_again (v ∷ t) h = ap₂ (λ (x : ℕ) (l : List ℕ). x ∷ l) (to_field_of_field v (h 0)) (fields_again t (λ i. h (suc i)))

pub table_lt : (s : List ℕ) (p w n i : ℕ) → get_or (table_at s p w n) i 0 < 2 ^ w
unfolding table_at
table_lt s p w zero i = pow_pos w
table_lt s p w (suc n) zero = field_lt s p w
table_lt s p w (suc n) (suc i) = table_lt s (p + w) w n i

-- What stands in a file under its header is what the header says.
pub under_stands : (s : List ℕ) → Stand s 0 (header_fields (header_of s) ++ tables_under (header_of s) (mesh_under s (header_of s)))
unfolding layout
under_stands s =
    let h = header_of s in
    let at = layout h in
    let m = mesh_under s h in
    let z = under_sized s h in
    let C = table_at s at.vertices 30 (3 * h.counts.vertices) in
    let again : map to_field m.vertices ≡ C = fields_again C (table_lt s at.vertices 30 (3 * h.counts.vertices)) in
    let long : at.vertices + 30 * length (map to_field m.vertices) ≡ at.hexes = omega (arith, length-map m.vertices to_field, z.vertices) in
    let long_hexes : at.hexes + h.width * length m.hexes ≡ at.quads = rw z.hexes in
    let long_quads : at.quads + h.width * length m.quads ≡ at.segments = rw z.quads in
    let long_segments : at.segments + h.width * length m.segments ≡ at.points = rw z.segments in
    stand_append (header_fields h) (tables_under h m) s 0 (header_stands s)
    (subst (λ (p : ℕ). Stand s p (tables_under h m)) (sym (ap (λ (x : ℕ). 0 + x) (bits_header h)))
    (table_then s at.vertices at.hexes 30 (map to_field m.vertices) _ long
    (subst (λ (t : List ℕ). Stand s at.vertices (table_fields 30 t)) (sym again) (table_stands s at.vertices 30 (3 * h.counts.vertices)))
    (table_then s at.hexes at.quads h.width m.hexes _ long_hexes (table_stands s at.hexes h.width (8 * h.counts.hexes))
    (table_then s at.quads at.segments h.width m.quads _ long_quads (table_stands s at.quads h.width (4 * h.counts.quads))
    (table_then s at.segments at.points h.width m.segments _ long_segments (table_stands s at.segments h.width (2 * h.counts.segments))
    (table_stands s at.points h.width h.counts.points))))))

-- Where the fields of a mesh stand in a file, that mesh is read.
pub standing_mesh : (s : List ℕ) (h : Header) (m : Mesh) → Sized h m → map of_field (map to_field m.vertices) ≡ m.vertices
    → Stand s 101 (tables_under h m) → mesh_under s h ≡ m
unfolding layout
standing_mesh s h m z again st =
    let at = layout h in
    let T = map to_field m.vertices in
    let n : length T ≡ 3 * h.counts.vertices = length-map m.vertices to_field ∙ z.vertices in
    let a = then_table s at.vertices at.hexes 30 T _ (omega arith) st in
    let b = then_table s at.hexes at.quads h.width m.hexes _ (rw z.hexes) a.1 in
    let c = then_table s at.quads at.segments h.width m.quads _ (rw z.quads) b.1 in
    let d = then_table s at.segments at.points h.width m.segments _ (rw z.segments) c.1 in
    let e = standing_table m.points s at.points h.width d.1 in
    let vertices : map of_field (table_at s at.vertices 30 (3 * h.counts.vertices)) ≡ m.vertices =
    ap (λ (k : ℕ). map of_field (table_at s at.vertices 30 k)) (sym n) ∙ ap (map of_field) a.0 ∙ again in
    let hexes = ap (table_at s at.hexes h.width) (sym z.hexes) ∙ b.0 in
    let quads = ap (table_at s at.quads h.width) (sym z.quads) ∙ c.0 in
    let segments = ap (table_at s at.segments h.width) (sym z.segments) ∙ d.0 in
    let points = ap (table_at s at.points h.width) (sym z.points) ∙ e in
    λ i. record { vertices = vertices i; hexes = hexes i; quads = quads i; segments = segments i; points = points i }
