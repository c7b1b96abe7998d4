-- What a round makes of bounded sizes, and how the rounds that are left follow one another. Assumes nothing.
use mathlib.Core.Path.{◌≡◌, refl, sym, ap, subst, ◌∙◌}
use Prim.Native.Nat.{ℕ, suc, ◌+◌, ◌-◌, ◌*◌, ◌^◌, ◌≤◌, ◌<◌}
use native.Mathlib.Nat.{le_trans}
use native.Mathlib.Omega.{arith}
use lib.Pow.{pow_mono, pow-add}
use Rattle.rules.specs.declared.Sizes.{Sizes}
use Rattle.rules.specs.Counts.{next_sizes, sizes_after}
use Rattle.counting.specs.Bounded.{Bounded}

bounded_le : (a b : ℕ) (s : Sizes) → a ≤ b → Bounded a s → Bounded b s
bounded_le a b s h g = record {
  vertices = le_trans g.vertices h;
  edges = le_trans g.edges h;
  faces = le_trans g.faces h;
  hexes = le_trans g.hexes h;
  quads = le_trans g.quads h;
  segments = le_trans g.segments h;
  points = le_trans g.points h;
}

-- a round makes no size more than 16 times the largest
bounded_next : (b : ℕ) (s : Sizes) → Bounded b s → Bounded (16 * b) (next_sizes s)
unfolding next_sizes
bounded_next b s g = record {
  vertices = omega arith;
  edges = omega arith;
  faces = omega arith;
  hexes = omega arith;
  quads = omega arith;
  segments = omega arith;
  points = omega arith;
}

-- the bound after k rounds
abbrev pub bound : ℕ → ℕ
bound k = 2 ^ (23 + 4 * k)

pub bound_next : (k : ℕ) (s : Sizes) → Bounded (bound k) s → Bounded (bound (k + 1)) (next_sizes s)
bound_next k s g =
    let e : 16 * bound k ≡ bound (k + 1) = turn (bound k) ∙ sym (pow-add 2 (23 + 4 * k) 4) ∙ ap (λ (i : ℕ). 2 ^ i) (omega arith) in
    subst (λ (b : ℕ). Bounded b (next_sizes s)) e (bounded_next (bound k) s g)
  where
    turn : (x : ℕ) → 16 * x ≡ x * 2 ^ 4
    turn x = omega arith

pub bound_fits : (k : ℕ) (s : Sizes) → k < 8 → Bounded (bound k) s → Bounded (2 ^ 59) s
bound_fits k s h g =
    let e : 23 + 4 * k ≤ 59 = omega arith in
    bounded_le (bound k) (2 ^ 59) s (pow_mono e) g

-- one of the rounds that are left
pub after_next : (n k : ℕ) (s : Sizes) → k < n → sizes_after (n - (k + 1)) (next_sizes s) ≡ sizes_after (n - k) s
unfolding sizes_after
after_next n k s h =
    let e : n - k ≡ suc (n - (k + 1)) = omega arith in
    rw e refl

pub after_none : (n k : ℕ) (s : Sizes) → n ≤ k → sizes_after (n - k) s ≡ s
unfolding sizes_after
after_none n k s h =
    let e : n - k ≡ 0 = omega arith in
    rw e refl
