-- What the numbers hold when all tables are marked and counted: an unusual vertex is an irregular one. Assumes nothing.
use mathlib.Core.Path.{◌≡◌, refl}
use mathlib.Core.Bool.{Bool, true, false, not, cond}
use mathlib.Core.List.{List}
use Prim.Native.Nat.{ℕ, ◌+◌, ◌/◌, ◌^◌, ◌<◌}
use native.Mathlib.Omega.{arith}
use lib.Dec.{eqb}
use lib.ListN.{length, get_or}
use Rattle.std.specs.List.{zip, count_by}
use Rattle.rules.specs.Lists.{keep, up_from}
use Rattle.rules.specs.Mesh.{Mesh}
use Rattle.irregular.specs.Times.{times, irregular_by, irregular_in}
use Rattle.irregular.specs.Tallied.{Ranked, Counted, unusual}
use Rattle.irregular.proofs.Keeping.{pair_count}
use Rattle.irregular.proofs.Valences.{has_times}

-- by the counts of a vertex: p, s, q and h
abbrev depth_by : ℕ → ℕ → ℕ → ℕ
depth_by p s q = cond (not (eqb p 0)) 3 (cond (not (eqb s 0)) 2 (cond (not (eqb q 0)) 1 0))

usual : (p s q h : ℕ) → let d = depth_by p s q in
    not (eqb (cond (eqb 0 d) h 0 + cond (eqb 1 d) q 0 + cond (eqb 2 d) s 0 + cond (eqb 3 d) p 0) (8 / 2 ^ d)) ≡ irregular_by p s q h
usual p s q h = go (eqb p 0) refl (eqb s 0) refl (eqb q 0) refl
  where
    none : (k : ℕ) → 0 + 0 + 0 + k ≡ k
    none k = omega arith

    third : (k : ℕ) → 0 + 0 + k + 0 ≡ k
    third k = omega arith

    second : (k : ℕ) → 0 + k + 0 + 0 ≡ k
    second k = omega arith

    first : (k : ℕ) → k + 0 + 0 + 0 ≡ k
    first k = omega arith

    go : (a : Bool) → eqb p 0 ≡ a → (b : Bool) → eqb s 0 ≡ b → (c : Bool) → eqb q 0 ≡ c → let d = depth_by p s q in
        not (eqb (cond (eqb 0 d) h 0 + cond (eqb 1 d) q 0 + cond (eqb 2 d) s 0 + cond (eqb 3 d) p 0) (8 / 2 ^ d)) ≡ irregular_by p s q h
    go false x b y c z = rw (x, none p)
    go true x false y c z = rw (x, y, third s)
    go true x true y false z = rw (x, y, z, second q)
    go true x true y true z = rw (x, y, z, first h)

-- ---- a window, once its tables are marked and counted

module _ {first : ℕ} {m : Mesh} {ranks : List ℕ} (r : Ranked first m ranks) where
  module _ {valences : List ℕ} (c : Counted first m ranks valences) where
    unusual_is : (v : ℕ) → v < length ranks → unusual (get_or ranks v 0, get_or valences v 0) ≡ irregular_in m (first + v)
    unusual_is v l =
        rw (
          c.counts v l,
          r.at v l,
          has_times (first + v) m.points,
          has_times (first + v) m.segments,
          has_times (first + v) m.quads,
        ) (usual (times (first + v) m.points) (times (first + v) m.segments) (times (first + v) m.quads) (times (first + v) m.hexes))

    pub finished_count : count_by unusual (zip ranks valences) ≡ length (keep (irregular_in m) (up_from first (length ranks)))
    finished_count = pair_count unusual (irregular_in m) first ranks valences c.kept unusual_is
