-- Marking the corners of tables: a loop's turn, and what the marks of all tables say. Assumes nothing.
use mathlib.Core.Path.{◌≡◌, refl, sym, ap, ◌∙◌}
use mathlib.Core.Bool.{Bool, true, false, not, cond, ◌||◌}
use mathlib.Core.List.{List}
use Prim.Native.Nat.{ℕ, ◌+◌, ◌<◌}
use native.Mathlib.Nat.{add-zero}
use native.Mathlib.Numerals.{add-one}
use native.Mathlib.Omega.{arith}
use lib.Dec.{eqb}
use lib.ListN.{length, take, get_or, set, replicate, length-set, length-replicate, get_or-replicate}
use lib.Seq.{get_or-set_same, get_or-set_other}
use borrow.Author.Tests.{eqb-true, eqb-false, ne_eqb}
use Rattle.rules.specs.Lists.{any, up_from, has}
use Rattle.rules.specs.Mesh.{Mesh}
use Rattle.lists.proofs.Membership.{in_up_from, up_from_shift}
use Rattle.lists.proofs.Tests.{any_turn, any_map, any_same, or_true, or_false}
use Rattle.checks.specs.Held.{isolated_in}
use Rattle.checks.specs.Marked.{Marked}
use Rattle.checks.proofs.Library.{any_places}

pub mark_start : (first x : ℕ) (w table : List ℕ) → Marked first x w w (take 0 table)
unfolding has any
mark_start first x w table = record { kept = refl; at = λ v l. refl }

module _ {first x : ℕ} {old new : List ℕ} (table : List ℕ) (i : ℕ) (m : Marked first x old new (take i table)) (h : i < length table) where
  more : (v : ℕ) → any (eqb v) (take (i + 1) table) ≡ (any (eqb v) (take i table) || eqb v (get_or table i 0))
  more v = rw (add-one i) (any_turn (eqb v) table i 0 h)

  -- corner number i is in the window
  pub mark_hit : (place : ℕ) → first + place ≡ get_or table i 0 → place < length old → Marked first x old (set new place x) (take (i + 1) table)
  unfolding has
  mark_hit place p l = record { kept = length-set new place x ∙ m.kept; at = at }
    where
      at : (v : ℕ) → v < length old → get_or (set new place x) v 0 ≡ cond (any (eqb (first + v)) (take (i + 1) table)) x (get_or old v 0)
      at v k = go (eqb (first + v) (get_or table i 0)) refl
        where
          go : (t : Bool) → eqb (first + v) (get_or table i 0) ≡ t
              → get_or (set new place x) v 0 ≡ cond (any (eqb (first + v)) (take (i + 1) table)) x (get_or old v 0)
          go true e =
              let q : v ≡ place = omega (arith, eqb-true (first + v) (get_or table i 0) e) in
              rw (more (first + v), e, or_true (any (eqb (first + v)) (take i table)), q) (get_or-set_same new place x 0 (rw m.kept l))
          go false e =
              rw (more (first + v), e, or_false (any (eqb (first + v)) (take i table)))
              (get_or-set_other new place v x 0 (λ q. eqb-false (first + v) (get_or table i 0) e (omega arith)) ∙ m.at v k)

  -- it is not
  pub mark_miss : ((v : ℕ) → v < length old → first + v ≡ get_or table i 0 → ⊥) → Marked first x old new (take (i + 1) table)
  unfolding has
  mark_miss f = record {
    kept = m.kept;
    at = λ v k. rw (more (first + v), ne_eqb (first + v) (get_or table i 0) (f v k), or_false (any (eqb (first + v)) (take i table))) (m.at v k);
  }

-- ---- four tables, one after the other

-- a window by its first vertex
any_shift : (p : ℕ → Bool) (first n : ℕ) → any (λ (v : ℕ). p (first + v)) (up_from 0 n) ≡ any p (up_from first n)
any_shift p first n =
    sym (any_map p (λ (v : ℕ). first + v) (up_from 0 n))
    ∙ ap (any p) (sym (up_from_shift first 0 n) ∙ ap (λ (a : ℕ). up_from a n) (add-zero first))

-- a vertex has no mark just where no table holds it
unmarked : (a b c d : Bool) → eqb 0 (cond d 1 (cond c 1 (cond b 1 (cond a 1 0)))) ≡ not (a || (b || (c || d)))
unmarked a b c true = rw (or_true c, or_true b, or_true a)
unmarked a b true false = rw (or_true b, or_true a)
unmarked a true false false = rw (or_true a)
unmarked true false false false = refl
unmarked false false false false = refl

module _ (first n : ℕ) (m : Mesh) {w₀ w₁ w₂ w₃ w₄ : List ℕ} (start : w₀ ≡ replicate n 0) (m₁ : Marked first 1 w₀ w₁ m.hexes) (m₂ : Marked first 1 w₁ w₂ m.quads) (m₃ : Marked first 1 w₂ w₃ m.segments) (m₄ : Marked first 1 w₃ w₄ m.points) where
  pub marks_kept : (length w₀ ≡ n) × (length w₁ ≡ n) × (length w₂ ≡ n) × (length w₃ ≡ n) × (length w₄ ≡ n)
  marks_kept =
      let k₀ : length w₀ ≡ n = ap length start ∙ length-replicate n 0 in
      let k₁ = m₁.kept ∙ k₀ in
      let k₂ = m₂.kept ∙ k₁ in
      let k₃ = m₃.kept ∙ k₂ in
      (k₀, k₁, k₂, k₃, m₄.kept ∙ k₃)

  pub isolated_by_marks : any (eqb 0) w₄ ≡ any (isolated_in m) (up_from first n)
  isolated_by_marks =
      let k = marks_kept in
      sym (any_places (eqb 0) w₄ 0)
      ∙ ap (λ (l : ℕ). any (λ (v : ℕ). eqb 0 (get_or w₄ v 0)) (up_from 0 l)) k.4
      ∙ any_same (λ (v : ℕ). eqb 0 (get_or w₄ v 0)) (λ (v : ℕ). isolated_in m (first + v)) (up_from 0 n)
      (λ v i.
      let l : v < n = omega (arith, in_up_from 0 n v i) in
      let zero : get_or w₀ v 0 ≡ 0 = ap (λ (w : List ℕ). get_or w v 0) start ∙ get_or-replicate n v 0 0 l in
      rw (
        m₄.at v (rw k.3 l),
        m₃.at v (rw k.2 l),
        m₂.at v (rw k.1 l),
        m₁.at v (rw k.0 l),
        zero,
      ) (unmarked (has (first + v) m.hexes) (has (first + v) m.quads) (has (first + v) m.segments) (has (first + v) m.points)))
      ∙ any_shift (isolated_in m) first n
