-- The checks by table: what a test over all kinds of cells says of each table. Assumes nothing.
use mathlib.Core.Path.{◌≡◌, refl, sym, ◌∙◌}
use mathlib.Core.Bool.{Bool, false, not, ◌||◌}
use mathlib.Core.List.{List, map}
use Prim.Native.Nat.{ℕ, ◌/◌, ◌%◌}
use native.Mathlib.Omega.{arith}
use lib.ListN.{length}
use lib.Dec.{leb, eqb}
use borrow.Author.Tests.{not-false, eqb-true}
use Rattle.rules.specs.Lists.{any, repeats, cut, up_from, has, key_of, same}
use Rattle.rules.specs.Mesh.{Mesh, Kind, hex, quad, segment, point, kinds, corners, topology, cells_of}
use Rattle.rules.specs.Refusals.{partial_entry, corner_out_of_range, repeated_corner, duplicate_cell, isolated_vertex}
use Rattle.lists.proofs.Tests.{or_false, or_neither, any_same}
use Rattle.lists.proofs.Tables.{any_cut}
use Rattle.checks.specs.Held.{isolated_in}

-- the flat table of a kind
abbrev pub table_of : Mesh → Kind → List ℕ
table_of m hex = m.hexes
table_of m quad = m.quads
table_of m segment = m.segments
table_of m point = m.points

-- a test of each kind
abbrev pub each_kind : (Kind → Bool) → Bool
each_kind p = p hex || (p quad || (p segment || p point))

any_kinds : (p : Kind → Bool) → any p kinds ≡ each_kind p
unfolding any
any_kinds p = rw (or_false (p point))

pub cells_cut : (m : Mesh) (κ : Kind) → cells_of (topology m) κ ≡ cut (corners κ) (table_of m κ)
unfolding topology
cells_cut m hex = refl
cells_cut m quad = refl
cells_cut m segment = refl
cells_cut m point = refl

-- no table has a partial entry
pub whole_tables : (m : Mesh) → partial_entry m ≡ false → (κ : Kind) → length (table_of m κ) % corners κ ≡ 0
unfolding partial_entry
whole_tables m h κ =
    let a = or_neither (not (eqb (length m.vertices % 3) 0)) (not (eqb (length m.hexes % 8) 0) || (not (eqb (length m.quads % 4) 0) || not (eqb (length m.segments % 2) 0))) h in
    let b = or_neither (not (eqb (length m.hexes % 8) 0)) (not (eqb (length m.quads % 4) 0) || not (eqb (length m.segments % 2) 0)) a.1 in
    let c = or_neither (not (eqb (length m.quads % 4) 0)) (not (eqb (length m.segments % 2) 0)) b.1 in
    go κ (divides _ 8 b.0) (divides _ 4 c.0) (divides _ 2 c.1)
  where
    divides : (n k : ℕ) → not (eqb (n % k) 0) ≡ false → n % k ≡ 0
    divides n k e = eqb-true (n % k) 0 (not-false (eqb (n % k) 0) e)

    go : (κ : Kind) → length m.hexes % 8 ≡ 0 → length m.quads % 4 ≡ 0 → length m.segments % 2 ≡ 0 → length (table_of m κ) % corners κ ≡ 0
    go hex a b c = a
    go quad a b c = b
    go segment a b c = c
    go point a b c = omega arith

-- 4, by table
pub corner_tables : (m : Mesh) → partial_entry m ≡ false
    → corner_out_of_range (topology m) ≡ each_kind (λ (κ : Kind). any (leb (length m.vertices / 3)) (table_of m κ))
unfolding corner_out_of_range topology
corner_tables m h =
    let n = length m.vertices / 3 in
    let w = whole_tables m h in
    any_kinds (λ (κ : Kind). any (any (leb n)) (cells_of (topology m) κ))
    ∙ rw (
      any_cut (leb n) 8 m.hexes (w hex),
      any_cut (leb n) 4 m.quads (w quad),
      any_cut (leb n) 2 m.segments (w segment),
      any_cut (leb n) 1 m.points (w point),
    )

-- 5, by table
pub repeat_tables : (m : Mesh) → repeated_corner (topology m) ≡ each_kind (λ (κ : Kind). any (repeats eqb) (cut (corners κ) (table_of m κ)))
unfolding repeated_corner topology
repeat_tables m = any_kinds (λ (κ : Kind). any (repeats eqb) (cells_of (topology m) κ))

-- a test that fails for all kinds fails for each
pub no_kind : (p : Kind → Bool) → each_kind p ≡ false → (κ : Kind) → p κ ≡ false
no_kind p h κ =
    let a = or_neither (p hex) (p quad || (p segment || p point)) h in
    let b = or_neither (p quad) (p segment || p point) a.1 in
    let c = or_neither (p segment) (p point) b.1 in
    go κ a.0 b.0 c.0 c.1
  where
    go : (κ : Kind) → p hex ≡ false → p quad ≡ false → p segment ≡ false → p point ≡ false → p κ ≡ false
    go hex a b c d = a
    go quad a b c d = b
    go segment a b c d = c
    go point a b c d = d

pub no_repeats : (m : Mesh) → repeated_corner (topology m) ≡ false → (κ : Kind) → any (repeats eqb) (cut (corners κ) (table_of m κ)) ≡ false
no_repeats m h κ = no_kind (λ (κ : Kind). any (repeats eqb) (cut (corners κ) (table_of m κ))) (sym (repeat_tables m) ∙ h) κ

-- 6, by table
pub duplicate_tables : (m : Mesh) → duplicate_cell (topology m) ≡ each_kind (λ (κ : Kind). repeats same (map key_of (cut (corners κ) (table_of m κ))))
unfolding duplicate_cell topology
duplicate_tables m = any_kinds (λ (κ : Kind). repeats same (map key_of (cells_of (topology m) κ)))

pub no_duplicates : (m : Mesh) → duplicate_cell (topology m) ≡ false → (κ : Kind)
    → repeats same (map key_of (cut (corners κ) (table_of m κ))) ≡ false
no_duplicates m h κ = no_kind (λ (κ : Kind). repeats same (map key_of (cut (corners κ) (table_of m κ)))) (sym (duplicate_tables m) ∙ h) κ

-- 8, by table
pub isolated_tables : (m : Mesh) → partial_entry m ≡ false
    → isolated_vertex (topology m) ≡ any (isolated_in m) (up_from 0 (length m.vertices / 3))
unfolding isolated_vertex topology has
isolated_tables m h =
    any_same (λ (v : ℕ). not (any (λ (κ : Kind). any (has v) (cells_of (topology m) κ)) kinds)) (isolated_in m) (up_from 0 (length m.vertices / 3))
    (λ v i.
    let w = whole_tables m h in
    rw (
      any_kinds (λ (κ : Kind). any (has v) (cells_of (topology m) κ)),
      any_cut (eqb v) 8 m.hexes (w hex),
      any_cut (eqb v) 4 m.quads (w quad),
      any_cut (eqb v) 2 m.segments (w segment),
      any_cut (eqb v) 1 m.points (w point),
    ))
