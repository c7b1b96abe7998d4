-- The tests 4 to 8 of the rules decide what Sound states, and checks 1 to 8 let through just the accepted meshes. Assumes nothing.
use mathlib.Core.Path.{◌≡◌, refl, sym, ap, ◌∙◌, subst}
use mathlib.Core.Bool.{Bool, true, false, not, ◌&&◌}
use mathlib.Core.List.{List, map}
use Prim.Native.Nat.{ℕ, ◌<◌, zero-le}
use native.Mathlib.Omega.{arith}
use lib.ListN.{length}
use lib.Dec.{leb, eqb}
use borrow.Author.Tests.{leb-false, lt-leb, not-false}
use Rattle.rules.specs.Lists.{any, repeats, up_from, has, Key, key_of, same}
use Rattle.rules.specs.Mesh.{Mesh, Kind, hex, quad, segment, point, kinds, corners, whole, Topology, cells_of, topology}
use Rattle.rules.specs.Split.{met}
use Rattle.rules.specs.Refusals.{check, partial_entry, count_out_of_range, coordinate_out_of_range, corner_out_of_range, repeated_corner, duplicate_cell, ring, mismatched, mismatched_face, isolated_vertex, table_checks, mesh_checks}
use Rattle.lists.specs.Membership.{In}
use Rattle.lists.proofs.Membership.{get_or_in, in_get_or, in_up_from, up_from_in}
use Rattle.lists.proofs.Once.{once_place, place_once}
use Rattle.lists.proofs.Tests.{and_false, false_and, any_in, in_any, none_in, in_none, has_in, in_has, repeats_once_numbers, once_repeats_numbers}
use Rattle.lists.proofs.Keys.{same_eq, eq_same, any_key, key_any, repeats_once_keys, once_repeats_keys}
use Rattle.lists.proofs.Tables.{length_entry}
use Rattle.soundness.specs.Sound.{corner, Sound}
use Rattle.soundness.specs.Accepted.{Accepted}
use Rattle.soundness.proofs.CellParts.{every}
use Rattle.soundness.proofs.Cells.{whole_below, below_whole}

-- a cell has as many corners as its kind
abbrev pub Sized : Topology → Type 0
Sized t = (κ : Kind) (cell : List ℕ) → In cell (cells_of t κ) → length cell ≡ corners κ

-- so it is with the cells of a mesh
pub mesh_sized : (m : Mesh) → Sized (topology m)
unfolding topology
mesh_sized m hex c i = length_entry 8 m.hexes c i
mesh_sized m quad c i = length_entry 4 m.quads c i
mesh_sized m segment c i = length_entry 2 m.segments c i
mesh_sized m point c i = length_entry 1 m.points c i

-- some neighbours in f are none in g: the test, and what it means that it fails
unfoldable pub astray : List ℕ → List ℕ → Bool
astray f g = any (λ (e : Key). not (any (same e) (ring g))) (ring f)

pub ring_kept : (f g : List ℕ) → astray f g ≡ false → (e : Key) → In e (ring f) → In e (ring g)
unfolding astray
ring_kept f g h e i = any_key e (ring g) (not-false (any (same e) (ring g)) (none_in (λ (e : Key). not (any (same e) (ring g))) (ring f) h e i))

pub kept_ring : (f g : List ℕ) → ((e : Key) → In e (ring f) → In e (ring g)) → astray f g ≡ false
unfolding astray
kept_ring f g h = in_none (λ (e : Key). not (any (same e) (ring g))) (ring f) (λ e i. ap not (key_any e (ring g) (h e i)))

pub mismatched_is : (f g : List ℕ) → mismatched f g ≡ (same (key_of f) (key_of g) && astray f g)
unfolding mismatched astray
mismatched_is f g = refl

module _ (t : Topology) where
  -- a test of each cell
  pub none_cells :
      (test : List ℕ → Bool) → any (λ (κ : Kind). any test (cells_of t κ)) kinds ≡ false → (κ : Kind) (c : List ℕ) → In c (cells_of t κ) →
      test c ≡ false
  none_cells test h κ c i = none_in test (cells_of t κ) (none_in (λ (κ : Kind). any test (cells_of t κ)) kinds h κ (every κ)) c i

  cells_none :
      (test : List ℕ → Bool) → ((κ : Kind) (c : List ℕ) → In c (cells_of t κ) → test c ≡ false) →
      any (λ (κ : Kind). any test (cells_of t κ)) kinds ≡ false
  cells_none test h = in_none (λ (κ : Kind). any test (cells_of t κ)) kinds (λ κ i. in_none test (cells_of t κ) (h κ))

  -- ---- from the statement to the tests

  module _ (s : Sound t) where
    below_placed : (κ : Kind) (c : List ℕ) → In c (cells_of t κ) → (j : ℕ) → j < length c → In j (whole κ)
    below_placed κ c i j l = below_whole κ j (subst (λ (n : ℕ). j < n) (s.sized κ c i) l)

    pub no_corner_out_of_range : corner_out_of_range t ≡ false
    unfolding corner_out_of_range
    no_corner_out_of_range =
        cells_none (any (leb t.vertex_count))
        (λ κ c i. in_none (leb t.vertex_count) c
        (λ v j.
        let p = in_get_or c v 0 j in
        lt-leb t.vertex_count v (subst (λ (n : ℕ). n < t.vertex_count) p.2 (s.known κ c i p.0 (below_placed κ c i p.0 p.1)))))

    pub no_repeated_corner : repeated_corner t ≡ false
    unfolding repeated_corner
    no_repeated_corner =
        cells_none (repeats eqb)
        (λ κ c i. once_repeats_numbers c (place_once c 0 (λ a b j k e. s.corners_distinct κ c i a b (below_placed κ c i a j) (below_placed κ c i b k) e)))

    pub no_duplicate_cell : duplicate_cell t ≡ false
    unfolding duplicate_cell
    no_duplicate_cell =
        in_none (λ (κ : Kind). repeats same (map key_of (cells_of t κ))) kinds
        (λ κ i. once_repeats_keys (map key_of (cells_of t κ)) (s.cells_distinct κ))

    pub no_mismatched_face : mismatched_face t ≡ false
    unfolding mismatched_face
    no_mismatched_face =
        in_none (λ (f : List ℕ). any (mismatched f) (met t 2)) (met t 2)
        (λ f i. in_none (mismatched f) (met t 2)
        (λ g j. mismatched_is f g ∙ false_and (same (key_of f) (key_of g)) (astray f g)
        (λ e. kept_ring f g (s.matched f g i j (same_eq (key_of f) (key_of g) e)))))

    pub no_isolated_vertex : isolated_vertex t ≡ false
    unfolding isolated_vertex
    no_isolated_vertex =
        in_none (λ (v : ℕ). not (any (λ (κ : Kind). any (has v) (cells_of t κ)) kinds)) (up_from 0 t.vertex_count)
        (λ v i.
        let h = s.held v (omega (arith, in_up_from 0 t.vertex_count v i)) in
        let l : h.place < length h.cell = omega (arith, whole_below h.kind h.place h.placed, s.sized h.kind h.cell h.listed) in
        ap not
        (in_any (λ (κ : Kind). any (has v) (cells_of t κ)) kinds h.kind (every h.kind)
        (in_any (has v) (cells_of t h.kind) h.cell h.listed
        (in_has v h.cell (subst (λ (z : ℕ). In z h.cell) (sym h.is) (get_or_in h.cell h.place 0 l))))))

  -- ---- and back

  module _ (z : Sized t) where
    pub placed_below : (κ : Kind) (c : List ℕ) → In c (cells_of t κ) → (j : ℕ) → In j (whole κ) → j < length c
    placed_below κ c i j k = omega (arith, z κ c i, whole_below κ j k)

    pub tests_sound :
        corner_out_of_range t ≡ false → repeated_corner t ≡ false → duplicate_cell t ≡ false → mismatched_face t ≡ false →
        isolated_vertex t ≡ false → Sound t
    unfolding corner_out_of_range repeated_corner duplicate_cell mismatched_face isolated_vertex
    tests_sound h₄ h₅ h₆ h₇ h₈ = record {
      sized = z;
      known = λ κ c i j k.
          leb-false t.vertex_count (corner c j)
          (none_in (leb t.vertex_count) c (none_cells (any (leb t.vertex_count)) h₄ κ c i) (corner c j) (get_or_in c j 0 (placed_below κ c i j k)));
      corners_distinct = λ κ c i a b j k e.
          once_place c 0 (repeats_once_numbers c (none_cells (repeats eqb) h₅ κ c i)) a b (placed_below κ c i a j) (placed_below κ c i b k) e;
      cells_distinct =
          λ κ. repeats_once_keys (map key_of (cells_of t κ))
          (none_in (λ (κ : Kind). repeats same (map key_of (cells_of t κ))) kinds h₆ κ (every κ));
      matched = λ f g i j e.
          let h = none_in (mismatched f) (met t 2) (none_in (λ (f : List ℕ). any (mismatched f) (met t 2)) (met t 2) h₇ f i) g j in
          ring_kept f g (and_false (same (key_of f) (key_of g)) (astray f g) (sym (mismatched_is f g) ∙ h) (eq_same (key_of f) (key_of g) e));
      held = λ v l.
          let h =
          none_in (λ (v : ℕ). not (any (λ (κ : Kind). any (has v) (cells_of t κ)) kinds)) (up_from 0 t.vertex_count) h₈ v
          (up_from_in 0 t.vertex_count v zero-le (omega arith)) in
          let q = any_in (λ (κ : Kind). any (has v) (cells_of t κ)) kinds (not-false (any (λ (κ : Kind). any (has v) (cells_of t κ)) kinds) h) in
          let r = any_in (has v) (cells_of t q.0) q.2 in
          let p = in_get_or r.0 v 0 (has_in v r.0 r.2) in
          let b : p.0 < corners q.0 = omega (arith, p.1, z q.0 r.0 r.1) in
          record { kind = q.0; cell = r.0; place = p.0; listed = r.1; placed = below_whole q.0 p.0 b; is = sym p.2 };
    }

-- ---- checks 1 to 8 of a mesh

check_passes : (b : Bool) (number later : ℕ) → 0 < number → check b number later ≡ 0 → (b ≡ false) × (later ≡ 0)
check_passes true number later l e = absurd (omega arith)
check_passes false number later l e = (refl, e)

pub checks_accept : (m : Mesh) → mesh_checks m 0 ≡ 0 → Accepted m
unfolding mesh_checks table_checks
checks_accept m h =
    let t = topology m in
    let c₈ = check (isolated_vertex t) 8 0 in
    let c₇ = check (mismatched_face t) 7 c₈ in
    let c₆ = check (duplicate_cell t) 6 c₇ in
    let c₅ = check (repeated_corner t) 5 c₆ in
    let c₄ = check (corner_out_of_range t) 4 c₅ in
    let c₃ = check (coordinate_out_of_range m) 3 c₄ in
    let c₂ = check (count_out_of_range m) 2 c₃ in
    let p₁ = check_passes (partial_entry m) 1 c₂ (omega arith) h in
    let p₂ = check_passes (count_out_of_range m) 2 c₃ (omega arith) p₁.1 in
    let p₃ = check_passes (coordinate_out_of_range m) 3 c₄ (omega arith) p₂.1 in
    let p₄ = check_passes (corner_out_of_range t) 4 c₅ (omega arith) p₃.1 in
    let p₅ = check_passes (repeated_corner t) 5 c₆ (omega arith) p₄.1 in
    let p₆ = check_passes (duplicate_cell t) 6 c₇ (omega arith) p₅.1 in
    let p₇ = check_passes (mismatched_face t) 7 c₈ (omega arith) p₆.1 in
    let p₈ = check_passes (isolated_vertex t) 8 0 (omega arith) p₇.1 in
    record {
      entire = p₁.0;
      counted = p₂.0;
      near = p₃.0;
      sound = tests_sound t (mesh_sized m) p₄.0 p₅.0 p₆.0 p₇.0 p₈.0;
    }

pub accepted_passes : (m : Mesh) → Accepted m → (later : ℕ) → mesh_checks m later ≡ later
unfolding mesh_checks table_checks
accepted_passes m a later =
    let t = topology m in
    let s = a.sound in
    let h₄ = no_corner_out_of_range t s in
    let h₅ = no_repeated_corner t s in
    let h₆ = no_duplicate_cell t s in
    let h₇ = no_mismatched_face t s in
    let h₈ = no_isolated_vertex t s in
    rw (a.entire, a.counted, a.near, h₄, h₅, h₆, h₇, h₈)
