-- The length of a file and the fields behind its header make the checks 13, 16 and 4 in this order.
use Prim.Native.Nat.{ℕ, ◌+◌, ◌-◌, ◌*◌, ◌/◌, ◌%◌, ◌^◌}
use mathlib.Core.Path.{◌≡◌, sym, ap, ap₂, ◌∙◌, subst}
use mathlib.Core.Bool.{true, false, not}
use mathlib.Core.List.{List}
use native.Mathlib.Omega.{arith}
use lib.ListN.{length}
use lib.Dec.{leb, eqb}
use borrow.Author.Tests.{eq-eqb, ne_eqb}
use Rattle.rules.specs.declared.Counts.{Counts}
use Rattle.rules.specs.Lists.{any}
use Rattle.rules.specs.Mesh.{topology}
use Rattle.rules.specs.Refusals.{corner_out_of_range}
use Rattle.rules.specs.Bits.{number, field_at, table_at, bytes_for, filling}
use Rattle.rules.specs.StoredForm.{Header, header_of, layout, stored_mesh, wrong_length, spare_bits}
use Rattle.rules.specs.Counts.{out_of_range}
use Rattle.lists.proofs.Tests.{any_append}
use Rattle.checks.proofs.ByKind.{corner_tables}
use Rattle.bits.proofs.Fields.{filled, field_last}
use Rattle.bits.proofs.Tables.{table_append}
use Rattle.stored.specs.declared.layout.Layout.{Layout}
use Rattle.stored.specs.Form.{header_for, Laid}
use Rattle.stored.specs.Reading.{body_checks}
use Rattle.stored.proofs.Acceptance.{HeaderAccepted}
use Rattle.stored.proofs.Bounds.{Small, small, Numbers, numbers}
use Rattle.stored.proofs.Form.{mesh_under, stored_under, under_sized, sized_whole}

-- ---- corners

-- all corners in one row
corner_row : (s : List ℕ) (h : Header)
    → let c = h.counts in
    any (leb c.vertices) (table_at s (layout h).hexes h.width (8 * c.hexes + (4 * c.quads + (2 * c.segments + c.points))))
    ≡ corner_out_of_range (topology (mesh_under s h))
unfolding layout
corner_row s h =
    let c = h.counts in
    let w = h.width in
    let at = layout h in
    let z = under_sized s h in
    let v : length (mesh_under s h).vertices / 3 ≡ c.vertices = omega (arith, z.vertices) in
    rw (table_append s at.hexes w (8 * c.hexes) (4 * c.quads + (2 * c.segments + c.points)), table_append s at.quads w (4 * c.quads) (2 * c.segments + c.points), table_append s at.segments w (2 * c.segments) c.points, any_append, any_append, any_append)
    (sym (corner_tables (mesh_under s h) (sized_whole h (mesh_under s h) z) ∙ rw v))

-- ---- what is known behind an accepted header

pub record Body (s : List ℕ) (c : Counts) (at : Layout) : Type 0 where
  pub header : header_of s ≡ header_for c
  pub small : Small at.width c
  pub numbers : Numbers c at
  pub width : at.width ≡ (header_of s).width
  pub hexes : at.hexes ≡ (layout (header_of s)).hexes
  pub quads : at.quads ≡ (layout (header_of s)).quads
  pub segments : at.segments ≡ (layout (header_of s)).segments
  pub points : at.points ≡ (layout (header_of s)).points
  pub corners : at.corners ≡ 8 * c.hexes + (4 * c.quads + (2 * c.segments + c.points))
  pub end : at.end ≡ (layout (header_of s)).end
  pub bytes : at.bytes ≡ bytes_for (layout (header_of s)).end

pub body_known : (s : List ℕ) (c : Counts) (at : Layout) → HeaderAccepted s → (header_of s).counts ≡ c → Laid c at → Body s c at
body_known s c at a e l =
    let h : header_of s ≡ header_for c = a.header ∙ ap header_for e in
    let r : out_of_range c ≡ false = subst (λ (d : Counts). out_of_range d ≡ false) e a.range in
    record {
      header = h;
      small = small at.width c r l.width;
      numbers = numbers c at r l;
      width = l.width ∙ ap (λ x. x.width) (sym h);
      hexes = l.hexes ∙ ap (λ x. (layout x).hexes) (sym h);
      quads = l.quads ∙ ap (λ x. (layout x).quads) (sym h);
      segments = l.segments ∙ ap (λ x. (layout x).segments) (sym h);
      points = l.points ∙ ap (λ x. (layout x).points) (sym h);
      corners = l.corners;
      end = l.end ∙ ap (λ x. (layout x).end) (sym h);
      bytes = l.bytes ∙ ap (λ x. bytes_for (layout x).end) (sym h);
    }

module _ {s : List ℕ} {c : Counts} {at : Layout} (b : Body s c at) where
  -- the filling bits are the last field
  spare_test : length s ≡ at.bytes → not (eqb (field_at s at.end (8 * at.bytes - at.end)) 0) ≡ spare_bits s
  unfolding spare_bits
  spare_test e =
      let f : 8 * at.bytes - at.end ≡ filling (layout (header_of s)).end = ap₂ (λ (x y : ℕ). 8 * x - y) b.bytes b.end in
      let all : at.end + (8 * at.bytes - at.end) ≡ 8 * length s = ap₂ (λ (x y : ℕ). x + y) b.end f ∙ filled (layout (header_of s)).end ∙ ap (λ (x : ℕ). 8 * x) (sym (e ∙ b.bytes)) in
      ap (λ (v : ℕ). not (eqb v 0)) (field_last s at.end (8 * at.bytes - at.end) all ∙ ap (λ (k : ℕ). number s % 2 ^ k) f)

  corner_test : any (leb c.vertices) (table_at s at.hexes at.width at.corners) ≡ corner_out_of_range (topology (stored_mesh s))
  corner_test =
      let counts : c ≡ (header_of s).counts = ap (λ x. x.counts) (sym b.header) in
      rw (b.hexes, b.width, b.corners, counts) (corner_row s (header_of s) ∙ ap (λ m. corner_out_of_range (topology m)) (sym (stored_under s)))

  pub wrong_length_lem : (length s ≡ at.bytes → ⊥) → 13 ≡ body_checks s 0
  unfolding body_checks wrong_length
  wrong_length_lem ne = rw (ne_eqb (length s) (bytes_for (layout (header_of s)).end) (λ e. ne (e ∙ sym b.bytes)))

  pub spare_bit : length s ≡ at.bytes → (field_at s at.end (8 * at.bytes - at.end) ≡ 0 → ⊥) → 16 ≡ body_checks s 0
  unfolding body_checks wrong_length
  spare_bit e ne =
      rw (eq-eqb (length s) (bytes_for (layout (header_of s)).end) (e ∙ b.bytes), ← spare_test e, ne_eqb _ 0 ne)

  pub corner : length s ≡ at.bytes → field_at s at.end (8 * at.bytes - at.end) ≡ 0
      → any (leb c.vertices) (table_at s at.hexes at.width at.corners) ≡ true → 4 ≡ body_checks s 0
  unfolding body_checks wrong_length
  corner e f g =
      rw (eq-eqb (length s) (bytes_for (layout (header_of s)).end) (e ∙ b.bytes), ← spare_test e, eq-eqb _ 0 f, ← corner_test, g)

  pub body_passed : length s ≡ at.bytes → field_at s at.end (8 * at.bytes - at.end) ≡ 0
      → any (leb c.vertices) (table_at s at.hexes at.width at.corners) ≡ false → 0 ≡ body_checks s 0
  unfolding body_checks wrong_length
  body_passed e f g =
      rw (eq-eqb (length s) (bytes_for (layout (header_of s)).end) (e ∙ b.bytes), ← spare_test e, eq-eqb _ 0 f, ← corner_test, g)
