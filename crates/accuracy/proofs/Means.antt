-- Each mean of a sound topology is good: it draws on vertices that are there, with weights above 0 that sum to its divisor.
use mathlib.Core.Path.{◌≡◌, refl, sym, ap, ◌∙◌, subst}
use mathlib.Core.Logic.{inl, inr}
use mathlib.Core.List.{List, [], ◌∷◌, map}
use Prim.Native.Nat.{ℕ, ◌*◌, ◌/◌, ◌^◌, ◌<◌}
use native.Mathlib.Omega.{arith}
use native.Mathlib.Nat.{mul-pos}
use lib.Pow.{pow_pos}
use lib.ListN.{length, get_or}
use Rattle.rules.specs.Lists.{Each, up_from, Key}
use Rattle.rules.specs.Mesh.{Kind, hex, quad, segment, point, dimension, corners, Topology, cells_of}
use Rattle.rules.specs.Split.{parts, split_by, split}
use Rattle.rules.specs.Means.{Draw, Mean, no_mean, mean_of}
use Rattle.rules.specs.Averaging.{counted, rank, valence, eighths, cell_draws, mean_at, means}
use Rattle.lists.specs.Membership.{In}
use Rattle.lists.proofs.Membership.{in_map, in_up_from, get_or_in, in_get_or, get_or_run}
use Rattle.lists.proofs.Each.{each_in, each_concat_map}
use Rattle.rounding.specs.Good.{weights, GoodDraw, GoodMean}
use Rattle.rounding.proofs.Draws.{weights_concat_map}
use Rattle.soundness.specs.Sound.{Sound}
use Rattle.soundness.proofs.CellParts.{dimensions, placed, dimension_of_lem, size}
use Rattle.soundness.proofs.Cells.{in_part, length_part, below_whole}
use Rattle.soundness.proofs.SplitSound.{part_of, split_sound}
use Rattle.accuracy.proofs.Counted.{ranked, counted_in, counted_some}

-- ---- a split position in eighths

-- n corners have equal shares of 8
pub record Shared (n : ℕ) : Type 0 where
  pub whole : n * (8 / n) ≡ 8
  pub some : 0 < 8 / n

-- so have the 1, 2, 4 or 8 corners of a part
shared : (d : ℕ) → In d dimensions → Shared (2 ^ d)
shared d (inl e) = rw e (record { whole = refl; some = omega arith })
shared d (inr (inl e)) = rw e (record { whole = refl; some = omega arith })
shared d (inr (inr (inl e))) = rw e (record { whole = refl; some = omega arith })
shared d (inr (inr (inr (inr x4)))) = elim x4 [ ]
shared d (inr (inr (inr (inl e)))) = rw e (record { whole = refl; some = omega arith })

weights_equal : (w : ℕ) (us : List ℕ) → weights (map (λ (u : ℕ). record { vertex = u; weight = w }) us) ≡ length us * w
weights_equal w [] = omega arith
weights_equal w (u ∷ us) = omega (arith, weights_equal w us)

-- a part's corners have equal shares of 8, and are among n vertices
pub record GoodPart (n : ℕ) (part : Key) : Type 0 where
  pub shares : Shared (length part)
  pub known : (u : ℕ) → In u part → u < n

pub good_part : (t : Topology) → Sound t → (part : Key) → In part (parts t) → GoodPart t.vertex_count part
good_part t s part i =
    let a = part_of t s part i in
    let c = a.0 in
    let p = a.1 in
    let d = dimension_of_lem c.kind p a.2 in
    record {
      shares = subst Shared (sym (ap length a.3 ∙ length_part c.cell p ∙ size c.kind d.0 d.1 p d.2)) (shared d.0 d.1);
      known = λ u k.
          let q = in_part c.cell p u (subst (λ (y : Key). In u y) a.3 k) in
          rw q.2 (s.known c.kind c.cell c.listed q.0 (placed c.kind p a.2 q.0 q.1));
    }

-- ---- the weights of a split position, of a fine cell, of a mean

module _ (n : ℕ) (p : Key) (g : GoodPart n p) where
  eighths_weigh : weights (eighths p) ≡ 8
  unfolding eighths
  eighths_weigh = weights_equal (8 / length p) p ∙ g.shares.whole

  eighths_good : Each (GoodDraw n) (eighths p)
  unfolding eighths
  eighths_good =
      let draw : ℕ → Draw = λ u. record { vertex = u; weight = 8 / length p } in
      (each_in (GoodDraw n) (map draw p)).1 (λ d i.
      let u = in_map draw p d i in
      subst (GoodDraw n) (sym u.2) (record { known = g.known u.0 u.1; counted = g.shares.some }))

-- a cell whose corners are numbers of good parts
module _ (n : ℕ) (numbered : List Key) (cell : List ℕ) (g : (f : ℕ) → In f cell → GoodPart n (get_or numbered f [])) where
  abbrev position : ℕ → List Draw
  position f = eighths (get_or numbered f [])

  cell_weigh : weights (cell_draws numbered cell) ≡ 8 * length cell
  unfolding cell_draws
  cell_weigh =
      weights_concat_map 8 position cell ((each_in (λ (f : ℕ). weights (position f) ≡ 8) cell).1 (λ f i. eighths_weigh n (get_or numbered f []) (g f i)))

  cell_good : Each (GoodDraw n) (cell_draws numbered cell)
  unfolding cell_draws
  cell_good =
      (each_concat_map (GoodDraw n) position cell).1 ((each_in (λ (f : ℕ). Each (GoodDraw n) (position f)) cell).1 (λ f i. eighths_good n (get_or numbered f []) (g f i)))

power_corners : (κ : Kind) → corners κ ≡ 2 ^ dimension κ
power_corners hex = refl
power_corners quad = refl
power_corners segment = refl
power_corners point = refl

-- ---- the means of a round

-- the mean of a fine vertex, and its divisor
pub mean_is : (t : Topology) (f : ℕ) → f < (split t).vertex_count → mean_of (means t) f ≡ mean_at (parts t) (split t) f
unfolding means split split_by
mean_is t f l = get_or_run (mean_at (parts t) (split t)) no_mean 0 (length (parts t)) f l ∙ ap (mean_at (parts t) (split t)) (omega arith)

pub divisor_is : (t : Topology) (f : ℕ) → f < (split t).vertex_count → (mean_of (means t) f).divisor ≡ 8 * 2 ^ rank (split t) f * valence (split t) f
unfolding mean_at rank valence
divisor_is t f l = ap (λ (m : Mean). m.divisor) (mean_is t f l)

module _ (t : Topology) (s : Sound t) where
  fine : Sound (split t)
  fine = split_sound t s

  -- a corner of a fine cell is the number of a part
  corner_part : (κ : Kind) (c : List ℕ) → In c (cells_of (split t) κ) → (f : ℕ) → In f c → GoodPart t.vertex_count (get_or (parts t) f [])
  unfolding split split_by
  corner_part κ c i f j =
      let p = in_get_or c f 0 j in
      let w = below_whole κ p.0 (omega (arith, p.1, fine.sized κ c i)) in
      let l : f < length (parts t) = subst (λ (g : ℕ). g < length (parts t)) p.2 (fine.known κ c i p.0 w) in
      good_part t s (get_or (parts t) f []) (get_or_in (parts t) f [] l)

  mean_good : (f : ℕ) → f < (split t).vertex_count → GoodMean t.vertex_count (mean_at (parts t) (split t) f)
  unfolding mean_at
  mean_good f l =
      let κ = (ranked (split t) f).kind in
      let c = counted (split t) f in
      let n = t.vertex_count in
      let draws = cell_draws (parts t) in
      let w = 8 * 2 ^ c.rank in
      let of : (cell : List ℕ) → In cell c.cells → (g : ℕ) → In g cell → GoodPart n (get_or (parts t) g []) =
      λ cell i. corner_part κ cell ((counted_in (split t) f cell).0 i).0 in
      let size : (cell : List ℕ) → In cell c.cells → 8 * length cell ≡ w =
      λ cell i. ap (λ (m : ℕ). 8 * m) (fine.sized κ cell ((counted_in (split t) f cell).0 i).0 ∙ power_corners κ ∙ ap (λ (d : ℕ). 2 ^ d) (sym (ranked (split t) f).rank)) in
      record {
        each = (each_concat_map (GoodDraw n) draws c.cells).1
            ((each_in (λ (cell : List ℕ). Each (GoodDraw n) (draws cell)) c.cells).1 (λ cell i. cell_good n (parts t) cell (of cell i)));
        whole = weights_concat_map w draws c.cells
            ((each_in (λ (cell : List ℕ). weights (draws cell) ≡ w) c.cells).1 (λ cell i. cell_weigh n (parts t) cell (of cell i) ∙ size cell i));
        some = mul-pos (mul-pos (omega arith) (pow_pos c.rank)) (counted_some (split t) fine f l);
      }

  pub means_good : Each (GoodMean t.vertex_count) (means t)
  unfolding means split split_by
  means_good =
      let n = length (parts t) in
      (each_in (GoodMean t.vertex_count) (means t)).1 (λ m i.
      let f = in_map (mean_at (parts t) (split t)) (up_from 0 n) m i in
      subst (GoodMean t.vertex_count) (sym f.2) (mean_good f.0 (omega (arith, in_up_from 0 n f.0 f.1))))
