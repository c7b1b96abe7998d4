-- What the first checks let through. Assumes nothing.
use mathlib.Core.Path.{◌≡◌, refl}
use mathlib.Core.Bool.{Bool, true, false}
use Prim.Native.Nat.{ℕ, ◌/◌, ◌≤◌}
use native.Mathlib.Omega.{arith}
use lib.ListN.{length}
use lib.Dec.{ltb, eqb}
use borrow.Author.Tests.{ltb-false}
use Rattle.rules.specs.Counts.{counts_of, out_of_range}
use Rattle.rules.specs.Mesh.{Mesh, topology}
use Rattle.rules.specs.Refusals.{check, partial_entry, count_out_of_range, coordinate_out_of_range, corner_out_of_range, repeated_corner, duplicate_cell, mismatched_face, isolated_vertex, table_checks, mesh_checks}
use Rattle.lists.proofs.Tests.{or_neither}
use Rattle.rules.specs.declared.Refusal.{Refusal}
use Rattle.rules.specs.Answers.{number_of}
use Rattle.rules.proofs.Named.{number_is_suc}

-- 1 to 4 pass
pub record TablesPass (m : Mesh) : Type 0 where
  pub whole : partial_entry m ≡ false
  pub counts : count_out_of_range m ≡ false
  pub inside : coordinate_out_of_range m ≡ false
  pub known : corner_out_of_range (topology m) ≡ false

pub tables_pass : (m : Mesh) → table_checks m 0 ≡ 0 → TablesPass m
unfolding table_checks
tables_pass m h = go (partial_entry m) refl (count_out_of_range m) refl (coordinate_out_of_range m) refl (corner_out_of_range (topology m)) refl h
  where
    go : (a : Bool) → partial_entry m ≡ a → (b : Bool) → count_out_of_range m ≡ b → (c : Bool) → coordinate_out_of_range m ≡ c → (d : Bool)
        → corner_out_of_range (topology m) ≡ d
        → check a 1 (check b 2 (check c 3 (check d 4 0))) ≡ 0 → TablesPass m
    go true p b q c r d s h = absurd (omega arith)
    go false p true q c r d s h = absurd (omega arith)
    go false p false q true r d s h = absurd (omega arith)
    go false p false q false r true s h = absurd (omega arith)
    go false p false q false r false s h = record { whole = p; counts = q; inside = r; known = s }

-- then 5 to 8 decide
pub cells_decide : (m : Mesh) → TablesPass m → (later : ℕ)
    → mesh_checks m later ≡ check (repeated_corner (topology m)) 5 (check (duplicate_cell (topology m)) 6 (check (mismatched_face (topology m)) 7 (check (isolated_vertex (topology m)) 8 later)))
unfolding mesh_checks table_checks
cells_decide m p later = rw (p.whole, p.counts, p.inside, p.known)

-- a refusal of 1 to 4 is that of the mesh
pub tables_refuse : (m : Mesh) (r : Refusal) → number_of r ≡ table_checks m 0 → number_of r ≡ mesh_checks m 0
unfolding mesh_checks table_checks
tables_refuse m r h =
    go (partial_entry m) (count_out_of_range m) (coordinate_out_of_range m) (corner_out_of_range (topology m))
    (check (repeated_corner (topology m)) 5 (check (duplicate_cell (topology m)) 6 (check (mismatched_face (topology m)) 7 (check (isolated_vertex (topology m)) 8 0)))) h
  where
    go : (a b c d : Bool) (later : ℕ) → number_of r ≡ check a 1 (check b 2 (check c 3 (check d 4 0)))
        → number_of r ≡ check a 1 (check b 2 (check c 3 (check d 4 later)))
    go true b c d later h = h
    go false true c d later h = h
    go false false true d later h = h
    go false false false true later h = h
    go false false false false later h = absurd (let e = (number_is_suc r).1 in omega (arith, e, h))

-- the counts are in their ranges (rule 1.4)
pub record Few (m : Mesh) : Type 0 where
  pub vertices : length m.vertices / 3 ≤ 1_000_000
  pub hexes : length m.hexes / 8 ≤ 250_000
  pub quads : length m.quads / 4 ≤ 250_000
  pub segments : length m.segments / 2 ≤ 250_000
  pub points : length m.points / 1 ≤ 250_000

pub counts_few : (m : Mesh) → count_out_of_range m ≡ false → Few m
unfolding count_out_of_range out_of_range counts_of
counts_few m h =
    let a = or_neither (eqb (length m.vertices / 3) 0) _ h in
    let b = or_neither (ltb 1_000_000 (length m.vertices / 3)) _ a.1 in
    let c = or_neither (ltb 250_000 (length m.hexes / 8)) _ b.1 in
    let d = or_neither (ltb 250_000 (length m.quads / 4)) _ c.1 in
    let e = or_neither (ltb 250_000 (length m.segments / 2)) _ d.1 in
    record {
      vertices = ltb-false 1_000_000 (length m.vertices / 3) b.0;
      hexes = ltb-false 250_000 (length m.hexes / 8) c.0;
      quads = ltb-false 250_000 (length m.quads / 4) d.0;
      segments = ltb-false 250_000 (length m.segments / 2) e.0;
      points = ltb-false 250_000 (length m.points / 1) e.1;
    }
