-- The index width and the bits of each table are small where the counts are in their ranges.
use Prim.Native.Nat.{ℕ, ◌+◌, ◌-◌, ◌*◌, ◌≤◌, ◌<◌}
use mathlib.Core.Path.{◌≡◌, refl, sym, ap, ◌∙◌, subst}
use mathlib.Core.Bool.{false}
use native.Mathlib.Nat.{mul-le-mul_left, mul-le-mul_right, le_trans}
use native.Mathlib.Omega.{arith}
use Rattle.rules.specs.declared.Counts.{Counts}
use Rattle.rules.specs.declared.Sizes.{Sizes}
use Rattle.rules.specs.Counts.{out_of_range, counts_in}
use Rattle.rules.specs.Bits.{bytes_for, width_of}
use Rattle.rules.specs.StoredForm.{index_width, layout}
use Rattle.counting.specs.Bounded.{Narrow}
use Rattle.soundness.specs.Growth.{InRange}
use Rattle.soundness.proofs.Rounds.{in_range_lem}
use Rattle.bits.proofs.IndexWidth.{width_le, width_pos}
use Rattle.bits.proofs.Fields.{bytes_for_ge, bytes_for_lt}
use Rattle.stored.specs.declared.layout.Layout.{Layout}
use Rattle.stored.specs.Form.{Laid}

times : (w n k : ℕ) → w ≤ 20 → n ≤ k → w * n ≤ 20 * k
times w n k h l = le_trans (mul-le-mul_right n h) (mul-le-mul_left 20 l)

-- w is the width for the counts c, and the tables take few bits
pub record Small (w : ℕ) (c : Counts) : Type 0 where
  pub range : InRange c
  pub some : 0 < w
  pub width : w ≤ 20
  pub hexes : w * (8 * c.hexes) ≤ 40_000_000
  pub quads : w * (4 * c.quads) ≤ 20_000_000
  pub segments : w * (2 * c.segments) ≤ 10_000_000
  pub points : w * c.points ≤ 5_000_000

pub small : (w : ℕ) (c : Counts) → out_of_range c ≡ false → w ≡ index_width c → Small w c
unfolding index_width
small w c h e =
    let r = in_range_lem c h in
    let l : w ≤ 20 = subst (λ (n : ℕ). n ≤ 20) (sym e) (width_le 20 (c.vertices - 1) (omega arith) (omega (arith, r.vertices))) in
    record {
      range = r;
      some = subst (λ (n : ℕ). 0 < n) (sym e) (width_pos (c.vertices - 1));
      width = l;
      hexes = times w (8 * c.hexes) 2_000_000 l (omega (arith, r.hexes));
      quads = times w (4 * c.quads) 1_000_000 l (omega (arith, r.quads));
      segments = times w (2 * c.segments) 500_000 l (omega (arith, r.segments));
      points = times w c.points 250_000 l r.points;
    }

-- the same of the width that is computed
pub computed : (w : ℕ) (c : Counts) → out_of_range c ≡ false → w ≡ width_of (c.vertices - 1) → Small w c
unfolding index_width
computed w c h e = small w c h e

-- the layout in numbers
pub record Numbers (c : Counts) (at : Layout) : Type 0 where
  pub vertices : 101 + 30 * (3 * c.vertices) ≡ at.hexes
  pub hexes : at.hexes + at.width * (8 * c.hexes) ≡ at.quads
  pub quads : at.quads + at.width * (4 * c.quads) ≡ at.segments
  pub segments : at.segments + at.width * (2 * c.segments) ≡ at.points
  pub points : at.points + at.width * c.points ≡ at.end
  pub row : at.hexes + at.width * at.corners ≡ at.end
  pub fits : at.end ≤ 8 * at.bytes
  pub close : 8 * at.bytes < at.end + 8
  pub header : 101 ≤ at.end
  pub short : at.end ≤ 165_000_101

pub numbers : (c : Counts) (at : Layout) → out_of_range c ≡ false → Laid c at → Numbers c at
unfolding layout
numbers c at h l =
    let w = index_width c in
    let s = small w c h refl in
    let end : at.end ≡ 101 + 30 * (3 * c.vertices) + w * (8 * c.hexes) + w * (4 * c.quads) + w * (2 * c.segments) + w * c.points = l.end in
    let bytes = l.bytes ∙ ap bytes_for (sym l.end) in
    record {
      vertices = sym l.hexes;
      hexes = rw (l.hexes, l.width, l.quads);
      quads = rw (l.quads, l.width, l.segments);
      segments = rw (l.segments, l.width, l.points);
      points = rw (l.points, l.width, l.end);
      row = rw (l.hexes, l.width, l.corners, end) (omega arith);
      fits = rw bytes (bytes_for_ge at.end);
      close = rw bytes (bytes_for_lt at.end);
      header = omega (arith, end);
      short = omega (arith, end, s.range.vertices, s.hexes, s.quads, s.segments, s.points);
    }

-- counts in their ranges, among sizes, fit
pub places_fit : (p : Sizes) (c : Counts) → counts_in p ≡ c → out_of_range c ≡ false → Narrow p
unfolding counts_in
places_fit p c e h =
    let r = in_range_lem (counts_in p) (ap out_of_range e ∙ h) in
    record {
      vertices = omega (arith, r.vertices);
      hexes = omega (arith, r.hexes);
      quads = omega (arith, r.quads);
      segments = omega (arith, r.segments);
      points = omega (arith, r.points);
    }
