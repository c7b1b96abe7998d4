-- The numbers below n, some at a time: a loop that looks in windows for one that passes a test. Assumes nothing.
use mathlib.Core.Path.{◌≡◌, sym, ap, ◌∙◌}
use mathlib.Core.Bool.{Bool, true, false, ◌||◌}
use Prim.Native.Nat.{ℕ, ◌+◌, ◌-◌, ◌≤◌}
use native.Mathlib.Omega.{arith}
use Rattle.rules.specs.Lists.{any, up_from}
use Rattle.lists.proofs.Membership.{up_from_append}
use Rattle.lists.proofs.Tests.{any_append}

pub record Windowing (p : ℕ → Bool) (n : ℕ) (r : Bool) (first : ℕ) : Type 0 where
  pub below : first ≤ n
  pub rest : r ≡ any p (up_from first (n - first))

module _ (p : ℕ → Bool) (n : ℕ) {r : Bool} {first : ℕ} (at : Windowing p n r first) (size : ℕ) (h : size ≤ n - first) where
  -- the rest, taken apart
  window_turn : r ≡ (any p (up_from first size) || any p (up_from (first + size) (n - (first + size))))
  window_turn =
      let e : n - first ≡ size + (n - (first + size)) = omega (arith, at.below) in
      at.rest
      ∙ ap (λ (k : ℕ). any p (up_from first k)) e
      ∙ ap (any p) (up_from_append first size (n - (first + size)))
      ∙ any_append p (up_from first size) (up_from (first + size) (n - (first + size)))

  pub window_hit : any p (up_from first size) ≡ true → true ≡ r
  window_hit e = rw (window_turn, e)

  pub window_miss : any p (up_from first size) ≡ false → Windowing p n r (first + size)
  window_miss e = record { below = omega (arith, at.below); rest = rw (window_turn, e) }

pub window_end : (p : ℕ → Bool) (n : ℕ) {r : Bool} {first : ℕ} → Windowing p n r first → n ≤ first → false ≡ r
unfolding any up_from
window_end p n {r} {first} at h =
    let e : n - first ≡ 0 = omega arith in
    sym (at.rest ∙ ap (λ (k : ℕ). any p (up_from first k)) e)
