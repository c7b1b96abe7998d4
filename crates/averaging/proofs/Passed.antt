-- A pass over the cells of a mesh in rising dimension leaves, for each vertex, what the rules count: its rank, its valence, and the sum over the
-- counted cells. Assumes nothing.
use mathlib.Core.Path.{◌≡◌, refl, ap, ◌∙◌}
use mathlib.Core.Bool.{Bool, true, false, cond}
use mathlib.Core.List.{List, [], ◌∷◌}
use Prim.Native.Nat.{ℕ, ◌+◌, ◌≤◌, ◌<◌}
use native.Mathlib.Omega.{arith}
use lib.ListN.{length}
use borrow.Author.Tests.{le-leb, lt-leb}
use Rattle.rules.specs.Lists.{keep, has}
use Rattle.rules.specs.Mesh.{Topology}
use Rattle.rules.specs.Averaging.{holding, Counted, or_else, counted}
use Rattle.rounding.proofs.Draws.{sum_over}
use Rattle.averaging.specs.Tally.{Tally, nothing, counting}
use Rattle.averaging.proofs.Stores.{tally, tally_same}
use Rattle.averaging.proofs.Folds.{fold_over}

-- the tally of counted cells, each with its value
abbrev pub tally_of : (List ℕ → ℕ) → Counted → Tally
tally_of value c = tally c.rank (length c.cells) (sum_over value c.cells)

-- no cells, and the highest rank
abbrev pub none : Counted
none = record { rank = 3; cells = [] }

-- the highest dimension
highest : (xs : List (List ℕ)) → or_else 3 xs none ≡ record { rank = 3; cells = xs }
unfolding or_else
highest [] = refl
highest (x ∷ xs) = refl

module _ (value : List ℕ → ℕ) (f : ℕ) where
  -- one more cell of dimension d, which may hold f
  unfoldable pub visit : ℕ → List ℕ → Tally → Tally
  visit d c t = cond (has f c) (counting d (value c) t) t

  abbrev pub passed : ℕ → List (List ℕ) → Tally → Tally
  passed d = fold_over (visit d)

  module _ (d : ℕ) where
    -- a vertex of a lower rank
    lower : (cs : List (List ℕ)) (t : Tally) → t.rank < d → passed d cs t ≡ t
    unfolding visit counting
    lower [] t h = refl
    lower (c ∷ cs) t h = ap (passed d cs) (go (has f c)) ∙ lower cs t h
      where
        go : (b : Bool) → cond b (counting d (value c) t) t ≡ t
        go true = rw (lt-leb d t.rank h)
        go false = refl

    -- one of this rank
    same : (cs : List (List ℕ)) (k s : ℕ) → passed d cs (tally d k s) ≡ tally d (k + length (holding f cs)) (s + sum_over value (holding f cs))
    unfolding visit counting holding keep
    same [] k s = tally_same refl (omega arith) (omega arith)
    same (c ∷ cs) k s = go (has f c) (same cs)
      where
        go : (b : Bool) → ((k s : ℕ) → passed d cs (tally d k s) ≡ tally d (k + length (keep (has f) cs)) (s + sum_over value (keep (has f) cs)))
            → passed d cs (cond b (counting d (value c) (tally d k s)) (tally d k s)) ≡ tally d (k + length (cond b (c ∷ keep (has f) cs) (keep (has f) cs))) (s + sum_over value (cond b (c ∷ keep (has f) cs) (keep (has f) cs)))
        go true r = rw (le-leb d d (omega arith)) (r (k + 1) (s + value c) ∙ tally_same refl (omega arith) (omega arith))
        go false r = r k s

    -- one of no cell yet
    fresh : (cs : List (List ℕ)) → d ≤ 3 → passed d cs nothing ≡ tally_of value (or_else d (holding f cs) none)
    unfolding visit counting holding keep or_else
    fresh [] h = refl
    fresh (c ∷ cs) h = go (has f c) (fresh cs h)
      where
        go : (b : Bool) → passed d cs nothing ≡ tally_of value (or_else d (keep (has f) cs) none)
            → passed d cs (cond b (counting d (value c) nothing) nothing) ≡ tally_of value (or_else d (cond b (c ∷ keep (has f) cs) (keep (has f) cs)) none)
        go true r = rw (le-leb d 3 h) (same cs 1 (0 + value c) ∙ tally_same refl (omega arith) (omega arith))
        go false r = r

    -- after the cells xs of a lower dimension e
    above : (e : ℕ) (xs cs : List (List ℕ)) (before after : Counted) → e < d → passed d cs (tally_of value before) ≡ tally_of value after → passed d cs (tally_of value (or_else e xs before)) ≡ tally_of value (or_else e xs after)
    unfolding or_else
    above e [] cs before after h p = p
    above e (x ∷ xs) cs before after h p = lower cs (tally_of value (record { rank = e; cells = x ∷ xs })) h

  -- the four passes
  pub passed_all : (t : Topology) → passed 3 t.hexes (passed 2 t.quads (passed 1 t.segments (passed 0 t.points nothing))) ≡ tally_of value (counted t f)
  unfolding counted
  passed_all t =
      let ps = holding f t.points in
      let ss = holding f t.segments in
      let qs = holding f t.quads in
      let hs = holding f t.hexes in
      let o1 = or_else 1 ss none in
      let o2 = or_else 1 ss (or_else 2 qs none) in
      ap (λ (t' : Tally). passed 3 t.hexes (passed 2 t.quads (passed 1 t.segments t'))) (fresh 0 t.points (omega arith))
      ∙ ap (λ (t' : Tally). passed 3 t.hexes (passed 2 t.quads t')) (above 1 0 ps t.segments none o1 (omega arith) (fresh 1 t.segments (omega arith)))
      ∙ ap (passed 3 t.hexes) (above 2 0 ps t.quads o1 o2 (omega arith) (above 2 1 ss t.quads none (or_else 2 qs none) (omega arith) (fresh 2 t.quads (omega arith))))
      ∙ above 3 0 ps t.hexes o2 _ (omega arith)
      (above 3 1 ss t.hexes (or_else 2 qs none) _ (omega arith)
      (above 3 2 qs t.hexes none _ (omega arith) (fresh 3 t.hexes (omega arith) ∙ ap (tally_of value) (highest hs))))
