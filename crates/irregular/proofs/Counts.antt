-- How often a number stands in a list, and a loop that counts the corners of a table. Assumes nothing.
use mathlib.Core.Path.{◌≡◌, refl, sym, ap, ◌∙◌, subst}
use mathlib.Core.Bool.{Bool, true, false, cond}
use mathlib.Core.List.{List, [], ◌∷◌, ◌++◌}
use Prim.Native.Nat.{ℕ, ◌+◌, ◌^◌, ◌<◌, ◌≤◌}
use native.Mathlib.Nat.{add-zero}
use native.Mathlib.Numerals.{add-one}
use native.Mathlib.Omega.{arith}
use lib.Dec.{eqb}
use lib.ListN.{length, take, get_or, set, length-append, length-set}
use lib.Seq.{take-suc, length-take-le, get_or-set_same, get_or-set_other}
use borrow.Author.Tests.{eqb-true, eqb-false, eq-eqb}
use Rattle.rules.specs.Lists.{keep}
use Rattle.rules.specs.Mesh.{Mesh}
use Rattle.lists.proofs.Membership.{length_keep}
use Rattle.irregular.specs.Times.{times}
use Rattle.irregular.specs.Tallied.{Tallied, Counted}
use Rattle.irregular.proofs.Keeping.{keep_append}

-- ---- how often

pub times_append : (v : ℕ) (xs ys : List ℕ) → times v (xs ++ ys) ≡ times v xs + times v ys
unfolding times
times_append v xs ys = ap length (keep_append (eqb v) xs ys) ∙ length-append (keep (eqb v) xs) (keep (eqb v) ys)

pub times_le : (v : ℕ) (xs : List ℕ) → times v xs ≤ length xs
unfolding times
times_le v xs = length_keep (eqb v) xs

-- one element more is looked at
one : (v x : ℕ) → times v (x ∷ []) ≡ cond (eqb v x) 1 0
unfolding times keep
one v x = go (eqb v x)
  where
    go : (b : Bool) → length (cond b (x ∷ []) []) ≡ cond b 1 0
    go true = refl
    go false = refl

times_turn : (v : ℕ) (xs : List ℕ) (i : ℕ) → i < length xs → times v (take (i + 1) xs) ≡ times v (take i xs) + cond (eqb v (get_or xs i 0)) 1 0
times_turn v xs i h = ap (times v) (rw (add-one i) (take-suc xs i 0 h)) ∙ times_append v (take i xs) (get_or xs i 0 ∷ [])
    ∙ ap (λ (k : ℕ). times v (take i xs) + k) (one v (get_or xs i 0))

-- ---- a table is counted, corner by corner

if_zero : (b : Bool) → ◌≡◌ {A = ℕ} (cond b 0 0) 0
if_zero true = refl
if_zero false = refl

if_le : (b : Bool) (k : ℕ) → cond b k 0 ≤ k
if_le true k = omega arith
if_le false k = omega arith

pub tally_start : (first rank : ℕ) (ranks w table : List ℕ) → Tallied first rank ranks (take 0 table) w w
unfolding times keep
tally_start first rank ranks w table = record { kept = refl; counts = λ v l. rw (if_zero (eqb rank (get_or ranks v 0))) (sym (add-zero (get_or w v 0))) }

module _ {first rank : ℕ} {ranks old new : List ℕ} (table : List ℕ) (i : ℕ) (at : Tallied first rank ranks (take i table) old new) (h : i < length table) where
  -- a vertex that has another rank, or is not this corner, keeps its count
  other : (v : ℕ) → (first + v ≡ get_or table i 0 → rank ≡ get_or ranks v 0 → ⊥)
      → cond (eqb rank (get_or ranks v 0)) (times (first + v) (take i table)) 0 ≡ cond (eqb rank (get_or ranks v 0)) (times (first + v) (take (i + 1) table)) 0
  other v apart = go (eqb rank (get_or ranks v 0)) refl (eqb (first + v) (get_or table i 0)) refl
    where
      go : (b : Bool) → eqb rank (get_or ranks v 0) ≡ b → (c : Bool) → eqb (first + v) (get_or table i 0) ≡ c
          → cond (eqb rank (get_or ranks v 0)) (times (first + v) (take i table)) 0 ≡ cond (eqb rank (get_or ranks v 0)) (times (first + v) (take (i + 1) table)) 0
      go false p c q = rw p
      go true p true q = absurd (apart (eqb-true (first + v) (get_or table i 0) q) (eqb-true rank (get_or ranks v 0) p))
      go true p false q = rw (p, times_turn (first + v) table i h, q) (sym (add-zero (times (first + v) (take i table))))

  pub tally_miss : ((v : ℕ) → v < length ranks → first + v ≡ get_or table i 0 → rank ≡ get_or ranks v 0 → ⊥) → Tallied first rank ranks (take (i + 1) table) old new
  tally_miss apart = record {
    kept = at.kept;
    counts = λ v k. at.counts v k ∙ ap (λ (c : ℕ). get_or old v 0 + c) (other v (apart v k));
  }

  -- the corner's vertex is in the window
  module _ (place : ℕ) (p : first + place ≡ get_or table i 0) (l : place < length ranks) where
    -- what is counted fits
    pub tally_fits : get_or old place 0 + length table < 2 ^ 32 → get_or new place 0 + 1 < 2 ^ 32
    tally_fits b =
        let c = eqb rank (get_or ranks place 0) in
        omega (arith, at.counts place l, if_le c (times (first + place) (take i table)), times_le (first + place) (take i table), length-take-le i table (omega arith))

    pub tally_hit : length old ≡ length ranks → rank ≡ get_or ranks place 0
        → Tallied first rank ranks (take (i + 1) table) old (set new place (get_or new place 0 + 1))
    tally_hit r match = record {
      kept = length-set new place (get_or new place 0 + 1) ∙ at.kept;
      counts = λ v k. go v k (eqb v place) refl;
    }
      where
        -- the vertex of this corner
        this : get_or (set new place (get_or new place 0 + 1)) place 0 ≡ get_or old place 0 + cond (eqb rank (get_or ranks place 0)) (times (first + place) (take (i + 1) table)) 0
        this =
            let has_rank : eqb rank (get_or ranks place 0) ≡ true = eq-eqb rank (get_or ranks place 0) match in
            let before = rw has_rank at (at.counts place l) in
            let more : times (first + place) (take (i + 1) table) ≡ times (first + place) (take i table) + 1 = times_turn (first + place) table i h ∙ rw (eq-eqb (first + place) (get_or table i 0) p) in
            get_or-set_same new place (get_or new place 0 + 1) 0 (omega (arith, at.kept)) ∙ rw (has_rank, more) (omega arith)

        go : (v : ℕ) → v < length ranks → (b : Bool) → eqb v place ≡ b
            → get_or (set new place (get_or new place 0 + 1)) v 0 ≡ get_or old v 0 + cond (eqb rank (get_or ranks v 0)) (times (first + v) (take (i + 1) table)) 0
        go v k true e = subst (λ (u : ℕ). get_or (set new place (get_or new place 0 + 1)) u 0 ≡ get_or old u 0 + cond (eqb rank (get_or ranks u 0)) (times (first + u) (take (i + 1) table)) 0) (sym (eqb-true v place e)) this
        go v k false e =
            get_or-set_other new place v (get_or new place 0 + 1) 0 (λ q. eqb-false v place e (omega arith))
            ∙ at.counts v k
            ∙ ap (λ (c : ℕ). get_or old v 0 + c) (other v (λ q m. eqb-false v place e (omega arith)))

-- ---- four tables, one after the other

-- a table adds no more than its length
pub tally_le : {first rank : ℕ} {ranks table old new : List ℕ} → Tallied first rank ranks table old new → (v : ℕ) → v < length ranks
    → get_or new v 0 ≤ get_or old v 0 + length table
tally_le {first} {rank} {ranks} {table} {old} t v l =
    omega (arith, t.counts v l, if_le (eqb rank (get_or ranks v 0)) (times (first + v) table), times_le (first + v) table)

module _ {first : ℕ} {m : Mesh} {ranks w₀ w₁ w₂ w₃ w₄ : List ℕ} (t₀ : Tallied first 0 ranks m.hexes w₀ w₁) (t₁ : Tallied first 1 ranks m.quads w₁ w₂) (t₂ : Tallied first 2 ranks m.segments w₂ w₃) (t₃ : Tallied first 3 ranks m.points w₃ w₄) where
  pub counted_all : length w₀ ≡ length ranks → ((v : ℕ) → v < length ranks → get_or w₀ v 0 ≡ 0) → Counted first m ranks w₄
  counted_all e none = record {
    kept = t₃.kept ∙ t₂.kept ∙ t₁.kept ∙ t₀.kept ∙ e;
    counts = λ v l. omega (arith, none v l, t₀.counts v l, t₁.counts v l, t₂.counts v l, t₃.counts v l);
  }
