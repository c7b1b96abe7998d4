-- The irregularity of a vertex by counts is that of the rules. Assumes nothing.
use mathlib.Core.Path.{◌≡◌, refl, sym, ap, ◌∙◌, subst}
use mathlib.Core.Bool.{Bool, true, false, not, cond, ◌||◌}
use mathlib.Core.List.{List, [], ◌∷◌, ◌++◌}
use Prim.Native.Nat.{ℕ, suc, ◌/◌, ◌^◌, ◌<◌}
use native.Mathlib.Omega.{arith}
use lib.Dec.{eqb}
use lib.ListN.{length}
use borrow.Author.Tests.{ne_eqb, eqb-true}
use Rattle.rules.specs.Lists.{any, repeats, keep, concat, cut, up_from, has}
use Rattle.rules.specs.Mesh.{Mesh, Kind, hex, quad, segment, point, corners, topology, cells_of}
use Rattle.rules.specs.Averaging.{holding, or_else, counted, rank, valence}
use Rattle.rules.specs.Refusals.{partial_entry, repeated_corner}
use Rattle.rules.specs.EntryPoints.{irregular, irregular_count}
use Rattle.lists.proofs.Tests.{or_neither}
use Rattle.lists.proofs.Tables.{concat_cut}
use Rattle.soundness.specs.Accepted.{Accepted}
use Rattle.soundness.proofs.Checks.{no_repeated_corner}
use Rattle.checks.proofs.Passed.{counts_few}
use Rattle.checks.proofs.ByKind.{table_of, cells_cut, whole_tables, no_repeats}
use Rattle.irregular.specs.Times.{times, irregular_by, irregular_in, corner_count}
use Rattle.irregular.proofs.Keeping.{keep_same}
use Rattle.irregular.proofs.Counts.{times_append}

-- ---- cells that hold a vertex, and corners that name it

-- what is named at all is named at least once
pub has_times : (v : ℕ) (xs : List ℕ) → has v xs ≡ not (eqb (times v xs) 0)
unfolding has any times keep
has_times v [] = refl
has_times v (x ∷ xs) = go (eqb v x) (has_times v xs)
  where
    go : (b : Bool) → any (eqb v) xs ≡ not (eqb (length (keep (eqb v) xs)) 0)
        → (b || any (eqb v) xs) ≡ not (eqb (length (cond b (x ∷ keep (eqb v) xs) (keep (eqb v) xs))) 0)
    go true ih = rw (ne_eqb (suc (length (keep (eqb v) xs))) 0 (λ e. omega arith))
    go false ih = ih

-- a cell that names no corner twice names v once or not at all
once_times : (v : ℕ) (xs : List ℕ) → repeats eqb xs ≡ false → times v xs ≡ cond (has v xs) 1 0
unfolding repeats has any times keep
once_times v [] h = refl
once_times v (x ∷ xs) h = let p = or_neither (any (eqb x) xs) (repeats eqb xs) h in go (eqb v x) refl p.0 (once_times v xs p.1)
  where
    go : (b : Bool) → eqb v x ≡ b → any (eqb x) xs ≡ false → length (keep (eqb v) xs) ≡ cond (any (eqb v) xs) 1 0
        → length (cond b (x ∷ keep (eqb v) xs) (keep (eqb v) xs)) ≡ cond (b || any (eqb v) xs) 1 0
    go true e n ih =
        let none : any (eqb v) xs ≡ false = subst (λ (y : ℕ). any (eqb y) xs ≡ false) (sym (eqb-true v x e)) n in
        ap suc (ih ∙ rw none)
    go false e n ih = ih

held_times : (v : ℕ) (cells : List (List ℕ)) → any (repeats eqb) cells ≡ false → length (keep (has v) cells) ≡ times v (concat cells)
unfolding any keep concat
held_times v [] h = unfold times in refl
held_times v (c ∷ cs) h =
    let b = or_neither (repeats eqb c) (any (repeats eqb) cs) h in
    go (has v c) (once_times v c b.0) (held_times v cs b.1)
  where
    go : (b : Bool) → times v c ≡ cond b 1 0 → length (keep (has v) cs) ≡ times v (concat cs)
        → length (cond b (c ∷ keep (has v) cs) (keep (has v) cs)) ≡ times v (c ++ concat cs)
    go true e ih = rw (times_append v c (concat cs), e) (omega arith)
    go false e ih = rw (times_append v c (concat cs), e) (omega arith)

-- ---- rank and valence

-- the lowest dimension that has any decides
decides : (A B C D : List (List ℕ)) → let c = or_else 0 A (or_else 1 B (or_else 2 C (record { rank = 3; cells = D }))) in
    not (eqb (length c.cells) (2 ^ c.rank)) ≡ irregular_by (length A) (length B) (length C) (length D)
unfolding or_else
decides (a ∷ A) B C D = rw (ne_eqb (suc (length A)) 0 (λ e. omega arith))
decides [] (b ∷ B) C D = rw (ne_eqb (suc (length B)) 0 (λ e. omega arith))
decides [] [] (c ∷ C) D = rw (ne_eqb (suc (length C)) 0 (λ e. omega arith))
decides [] [] [] D = refl

module _ (m : Mesh) (w : partial_entry m ≡ false) (h : repeated_corner (topology m) ≡ false) where
  -- how many cells of a kind hold v
  pub held : (v : ℕ) (κ : Kind) → length (holding v (cells_of (topology m) κ)) ≡ times v (table_of m κ)
  unfolding holding
  held v κ =
      ap (λ (cs : List (List ℕ)). length (keep (has v) cs)) (cells_cut m κ)
      ∙ held_times v (cut (corners κ) (table_of m κ)) (no_repeats m h κ)
      ∙ ap (times v) (concat_cut (corners κ) (table_of m κ) (whole_tables m w κ))

  pub irregular_by_lem : (v : ℕ) → irregular (topology m) v ≡ irregular_in m v
  unfolding irregular valence rank counted
  irregular_by_lem v =
      let t = topology m in
      decides (holding v t.points) (holding v t.segments) (holding v t.quads) (holding v t.hexes)
      ∙ rw (held v point, held v segment, held v quad, held v hex)

  pub count_by : irregular_count (topology m) ≡ length (keep (irregular_in m) (up_from 0 (length m.vertices / 3)))
  unfolding irregular_count topology
  count_by = ap length (keep_same (irregular (topology m)) (irregular_in m) (up_from 0 (length m.vertices / 3)) (λ v i. irregular_by_lem v))

-- of a mesh that passes the checks
module _ (m : Mesh) (a : Accepted m) where
  pub accepted_count : irregular_count (topology m) ≡ length (keep (irregular_in m) (up_from 0 (length m.vertices / 3)))
  accepted_count = count_by m a.entire (no_repeated_corner (topology m) a.sound)

  -- its tables are short
  pub few_corners : corner_count m < 2 ^ 32
  few_corners =
      let f = counts_few m a.counted in
      let w = whole_tables m a.entire in
      omega (arith, f.hexes, f.quads, f.segments, f.points, w hex, w quad, w segment)
