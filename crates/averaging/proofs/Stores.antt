-- What the stores of a vertex's numbers make of its tally. Assumes nothing.
use mathlib.Core.Path.{◌≡◌, refl}
use mathlib.Core.Bool.{Bool, true, false, cond}
use mathlib.Core.List.{List, [], ◌∷◌}
use Prim.Native.Nat.{ℕ, zero, suc, ◌+◌, ◌^◌, ◌≤◌, ◌<◌}
use native.Mathlib.Omega.{arith}
use lib.ListN.{length, get_or, set, length-set}
use lib.Seq.{get_or-set_same, get_or-set_other}
use lib.Dec.{eqb, leb, lit<}
use borrow.Author.Tests.{eqb-true, eqb-false, le-leb, lt-leb}
use Rattle.averaging.specs.declared.tallies.Tallies.{Tallies}
use Rattle.averaging.specs.Tally.{Tally, tally_at, counting, corner_step, Room, Spare, Within, Tallied}

abbrev pub tally : ℕ → ℕ → ℕ → Tally
tally r k s = record { rank = r; valence = k; sum = s }

pub tally_same : {r r' k k' s s' : ℕ} → r ≡ r' → k ≡ k' → s ≡ s' → tally r k s ≡ tally r' k' s'
tally_same e f g = cc

corner_within : (d s g f : ℕ) → s < 2 ^ 41 → Within 1 (corner_step d s g f)
unfolding corner_step counting
corner_within d s g f h m t r = go (eqb f g) (leb d t.rank)
  where
    go : (b b' : Bool) → Room m (cond b (cond b' (record { rank = d; valence = t.valence + 1; sum = t.sum + s }) t) t)
    go true true = record { few = omega (arith, r.few); small = omega (arith, r.small) }
    go true false = record { few = omega (arith, r.few); small = r.small }
    go false b' = record { few = omega (arith, r.few); small = r.small }

-- each of three sums, with its own added
each_sum : (t s : List ℕ) (a : ℕ) → a < 3 → get_or ((get_or t 0 0 + get_or s 0 0) ∷ (get_or t 1 0 + get_or s 1 0) ∷ (get_or t 2 0 + get_or s 2 0) ∷ []) a 0 ≡ get_or t a 0 + get_or s a 0
each_sum t s zero h = refl
each_sum t s (suc zero) h = refl
each_sum t s (suc (suc zero)) h = refl
each_sum t s (suc (suc (suc a))) h = absurd (omega arith)

-- a valence with one more cell fits
pub valence_fits : (t : Tallies) (v : ℕ) → Spare 1 t → v < length t.ranks.now → get_or (get_or t.ranks.now v []) 1 0 + 1 < 2 ^ 32
valence_fits t v s h = omega (arith, (s.room 0 v (lit< tt) h).few)

-- a sum with one more cell fits
pub sum_fits : (t : Tallies) (v a s : ℕ) → Room 1 (tally_at t a v) → s < 2 ^ 41 → get_or (get_or t.totals.now v []) a 0 + s < 2 ^ 64
sum_fits t v a s r k = omega (arith, r.few, r.small)

module _ (t : Tallies) (v d : ℕ) (sums : List ℕ) (small : (a : ℕ) → a < 3 → get_or sums a 0 < 2 ^ 41) where
  abbrev rank : List ℕ
  rank = get_or t.ranks.now v []

  abbrev total : List ℕ
  total = get_or t.totals.now v []

  abbrev rank' : List ℕ
  rank' = d ∷ (get_or (get_or t.ranks.now v []) 1 0 + 1) ∷ []

  abbrev total' : List ℕ
  total' = (get_or (get_or t.totals.now v []) 0 0 + get_or sums 0 0) ∷ (get_or (get_or t.totals.now v []) 1 0 + get_or sums 1 0) ∷ (get_or (get_or t.totals.now v []) 2 0 + get_or sums 2 0) ∷ []

  -- a cell of dimension d counts for v where v's rank is not below d
  pub counts : (t' : Tallies) → t'.ranks.now ≡ set t.ranks.now v rank' → t'.totals.now ≡ set t.totals.now v total' → v < length t.ranks.now → length t.totals.now ≡ length t.ranks.now → d ≤ get_or rank 0 0
      → Tallied 1 (λ (a : ℕ). corner_step d (get_or sums a 0) v) t t'
  unfolding corner_step counting
  counts t' x y l e h = record {
    ranks_kept = rw x (simp length-set);
    totals_kept = rw y (simp length-set);
    each = λ a f k. rw (x, y) (go a f k (eqb f v) refl);
    within = λ a f k. corner_within d (get_or sums a 0) v f (small a k);
  }
    where
      go : (a f : ℕ) → a < 3 → (b : Bool) → eqb f v ≡ b
          → tally (get_or (get_or (set t.ranks.now v rank') f []) 0 0) (get_or (get_or (set t.ranks.now v rank') f []) 1 0) (get_or (get_or (set t.totals.now v total') f []) a 0)
          ≡ cond b (counting d (get_or sums a 0) (tally_at t a f)) (tally_at t a f)
      go a f k true p =
          let q : f ≡ v = eqb-true f v p in
          rw (q, le-leb d (get_or rank 0 0) h, get_or-set_same t.ranks.now v rank' [] l, get_or-set_same t.totals.now v total' [] (omega arith))
          (tally_same refl refl (each_sum total sums a k))
      go a f k false p =
          let n = eqb-false f v p in
          rw (get_or-set_other t.ranks.now v f rank' [] n, get_or-set_other t.totals.now v f total' [] n)

  -- else it does not
  pub counts_not : get_or rank 0 0 < d → Tallied 1 (λ (a : ℕ). corner_step d (get_or sums a 0) v) t t
  unfolding corner_step counting
  counts_not h = record { ranks_kept = refl; totals_kept = refl; each = λ a f k. go a f (eqb f v) refl; within = λ a f k. corner_within d (get_or sums a 0) v f (small a k) }
    where
      go : (a f : ℕ) (b : Bool) → eqb f v ≡ b → tally_at t a f ≡ cond b (counting d (get_or sums a 0) (tally_at t a f)) (tally_at t a f)
      go a f true e =
          let p : f ≡ v = eqb-true f v e in
          rw (p, lt-leb d (get_or rank 0 0) h)
      go a f false e = refl
