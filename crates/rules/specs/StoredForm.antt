-- Section 8, with the refusals 13 to 16: a mesh as bytes, reading and writing (rules 9.4 to 9.9) and the counts in a header (rule 9.14).
use Rattle.std.specs.Prelude.{Bool, not, cond, List, [], ◌∷◌, ◌++◌, map, ℕ, ◌+◌, ◌-◌, ◌*◌, ◌%◌, ◌^◌, length, get_or, ℤ, pos, negsuc, ltb, eqb}
use Rattle.rules.specs.declared.Counts.{Counts}
use Rattle.rules.specs.declared.CountsAnswer.{CountsAnswer}
use Rattle.rules.specs.declared.CountAnswer.{CountAnswer}
use Rattle.rules.specs.Mesh.{Mesh, topology}
use Rattle.rules.specs.Counts.{counts_of, out_of_range, fewer}
use Rattle.rules.specs.Refusals.{check, corner_out_of_range, table_checks}
use Rattle.rules.specs.EntryPoints.{counts_answer, count_answer, result_buffer, result_tables}
use Rattle.rules.specs.Bits.{number, field_at, table_at, Field, bytes_for, filling, encode, width_of}

-- ---- coordinates

-- a coordinate as 30 bits in two's complement, and back (rule 8.3)
unfoldable pub to_field : ℤ → ℕ
to_field (pos n) = n
to_field (negsuc n) = 2 ^ 30 - (n + 1)

unfoldable pub of_field : ℕ → ℤ
of_field v = cond (ltb v (2 ^ 29)) (pos v) (negsuc (2 ^ 30 - (v + 1)))

-- ---- the form

-- the header: form number, index width, five counts (rule 8.2)
pub record Header : Type 0 where
  pub form : ℕ
  pub width : ℕ
  pub counts : Counts

-- the form number (rule 8.2)
abbrev pub form_number : ℕ
form_number = 1

-- a field of k bits (rule 8.1)
abbrev pub field : ℕ → ℕ → Field
field k v = record { width = k; value = v }

-- a table of which each number takes w bits (rule 8.2)
unfoldable pub table_fields : ℕ → List ℕ → List Field
table_fields w table = map (field w) table

-- the widths of the header's seven fields (rule 8.2)
abbrev pub header_widths : List ℕ
header_widths = 4 ∷ 5 ∷ 20 ∷ 18 ∷ 18 ∷ 18 ∷ 18 ∷ []

-- fields of some widths that hold some values, one after another (rule 8.1)
abbrev pub fields_of : List ℕ → List ℕ → List Field
fields_of [] vs = []
fields_of (k ∷ ks) [] = []
fields_of (k ∷ ks) (v ∷ vs) = field k v ∷ fields_of ks vs

-- the seven fields of the header, 101 bits (rule 8.2)
unfoldable pub header_fields : Header → List Field
header_fields h =
    let c = h.counts in
    fields_of header_widths (h.form ∷ h.width ∷ c.vertices ∷ c.hexes ∷ c.quads ∷ c.segments ∷ c.points ∷ [])

-- the width that so many vertices call for (rule 8.5)
unfoldable pub index_width : Counts → ℕ
index_width c = width_of (c.vertices - 1)

-- header, coordinates by vertex and axis, then the corners of hexes, quads, segments and points (rule 8.2)
unfoldable pub mesh_fields : Mesh → List Field
mesh_fields m =
    let c = counts_of m in
    let w = index_width c in
    header_fields (record { form = form_number; width = w; counts = c })
    ++ (table_fields 30 (map to_field m.vertices)
    ++ (table_fields w m.hexes
    ++ (table_fields w m.quads
    ++ (table_fields w m.segments
    ++ table_fields w m.points))))

-- the stored form of a mesh (rules 8.2 and 8.6)
unfoldable pub stored_form : Mesh → List ℕ
stored_form m = encode (mesh_fields m)

-- ---- what stands in a file

-- the values of fields of some widths from bit p on (rule 8.1)
abbrev pub values_at : List ℕ → ℕ → List ℕ → List ℕ
values_at s p [] = []
values_at s p (k ∷ ks) = field_at s p k ∷ values_at s (p + k) ks

-- the header that stands in a file (rule 8.2)
unfoldable pub header_of : List ℕ → Header
header_of s =
    let at : ℕ → ℕ = λ i. get_or (values_at s 0 header_widths) i 0 in
    record {
      form = at 0;
      width = at 1;
      counts = record { vertices = at 2; hexes = at 3; quads = at 4; segments = at 5; points = at 6 };
    }

-- how many bits fields of some widths take (rule 8.1)
abbrev pub sum : List ℕ → ℕ
sum [] = 0
sum (k ∷ ks) = k + sum ks

-- where the coordinates, and the corners of each kind, begin, and the bit behind the last, by the header (rule 8.2)
pub record Layout : Type 0 where
  pub vertices : ℕ
  pub hexes : ℕ
  pub quads : ℕ
  pub segments : ℕ
  pub points : ℕ
  pub end : ℕ

unfoldable pub layout : Header → Layout
layout h =
    let w = h.width in
    let c = h.counts in
    let vertices = sum header_widths in
    let hexes = vertices + 30 * (3 * c.vertices) in
    let quads = hexes + w * (8 * c.hexes) in
    let segments = quads + w * (4 * c.quads) in
    let points = segments + w * (2 * c.segments) in
    record { vertices = vertices; hexes = hexes; quads = quads; segments = segments; points = points; end = points + w * c.points }

-- the mesh that stands in a file (rules 8.2 to 8.4)
unfoldable pub stored_mesh : List ℕ → Mesh
stored_mesh s =
    let h = header_of s in
    let w = h.width in
    let c = h.counts in
    let at = layout h in
    record {
      vertices = map of_field (table_at s at.vertices 30 (3 * c.vertices));
      hexes = table_at s at.hexes w (8 * c.hexes);
      quads = table_at s at.quads w (4 * c.quads);
      segments = table_at s at.segments w (2 * c.segments);
      points = table_at s at.points w c.points;
    }

-- ---- 13 to 16

-- 13, wrong file length (trade: wrong length), first condition: under 13 bytes (rule 7.13)
unfoldable pub header_cut : List ℕ → Bool
header_cut s = ltb (length s) 13

-- 13, second condition: not the length that the header calls for (rule 7.13)
unfoldable pub wrong_length : List ℕ → Bool
wrong_length s = not (eqb (length s) (bytes_for (layout (header_of s)).end))

-- 14, unknown form: the form number is another (rule 7.14)
unfoldable pub unknown_form : List ℕ → Bool
unknown_form s = not (eqb (header_of s).form form_number)

-- 15, wrong index width (trade: wrong width) (rule 7.15)
unfoldable pub wrong_width : List ℕ → Bool
wrong_width s = not (eqb (header_of s).width (index_width (header_of s).counts))

-- 16, nonzero padding (trade: spare bits): a filling bit is 1 (rule 7.16)
unfoldable pub spare_bits : List ℕ → Bool
spare_bits s = not (eqb (number s % 2 ^ filling (layout (header_of s)).end) 0)

-- ---- reading

-- the header's own checks, without its width: 13, 14, 2, and then what the later checks say (rules 9.4 and 9.14)
abbrev pub header_checks : List ℕ → ℕ → ℕ
header_checks s later =
    check (header_cut s) 13
    (check (unknown_form s) 14
    (check (out_of_range (header_of s).counts) 2 later))

-- reading's checks in their order: 13, 14, 2, 15, 13, 16, 4, 11 (rule 9.4)
unfoldable pub reading_refusal : List ℕ → Counts → ℕ
reading_refusal s lent =
    header_checks s
    (check (wrong_width s) 15
    (check (wrong_length s) 13
    (check (spare_bits s) 16
    (check (corner_out_of_range (topology (stored_mesh s))) 4
    (check (fewer lent (header_of s).counts) 11 0)))))

-- the header's counts; the mesh at the fronts of the lent tables (rule 9.5)
unfoldable pub reading_answer : List ℕ → Mesh → CountsAnswer
reading_answer s tables = counts_answer (reading_refusal s (counts_of tables)) (header_of s).counts

unfoldable pub reading_output : List ℕ → Mesh → Mesh
reading_output s tables = result_tables (reading_refusal s (counts_of tables)) tables (stored_mesh s)

-- ---- the counts in a header

-- 13 for under 13 bytes, 14, 2, and the header's counts; nothing else of the file is looked at (rule 9.14)
unfoldable pub header_answer : List ℕ → CountsAnswer
header_answer s = counts_answer (header_checks s 0) (header_of s).counts

-- ---- writing

-- writing's checks: 1 to 4, then 11 (rule 9.6)
unfoldable pub writing_refusal : Mesh → ℕ → ℕ
writing_refusal m lent = table_checks m (check (ltb lent (length (stored_form m))) 11 0)

-- the count of bytes; the stored form at the front of the buffer (rule 9.7)
unfoldable pub writing_answer : Mesh → List ℕ → CountAnswer
writing_answer m buffer = count_answer (writing_refusal m (length buffer)) (length (stored_form m))

unfoldable pub writing_output : Mesh → List ℕ → List ℕ
writing_output m buffer = result_buffer (writing_refusal m (length buffer)) buffer (stored_form m)
