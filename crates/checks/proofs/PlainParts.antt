-- Where no cell names a corner twice, no edge and no face does. Assumes nothing.
use mathlib.Core.Path.{◌≡◌, refl, sym, ◌∙◌, subst}
use mathlib.Core.Bool.{false}
use mathlib.Core.Logic.{inl, inr}
use mathlib.Core.List.{List, []}
use Prim.Native.Nat.{ℕ, ◌<◌}
use lib.Dec.{eqb}
use lib.ListN.{length, get_or}
use Rattle.rules.specs.Lists.{repeats, key_of, same}
use Rattle.rules.specs.Mesh.{Topology, topology}
use Rattle.rules.specs.Split.{corners_at, met}
use Rattle.rules.specs.Refusals.{repeated_corner}
use Rattle.lists.specs.Membership.{In, Once}
use Rattle.lists.proofs.Membership.{get_or_in}
use Rattle.lists.proofs.Once.{once_map, once_place}
use Rattle.lists.proofs.Tests.{repeats_once_numbers, once_repeats_numbers}
use Rattle.soundness.specs.Sound.{corner}
use Rattle.soundness.proofs.CellParts.{dimensions, placed, once_part, is_part}
use Rattle.soundness.proofs.Cells.{in_met}
use Rattle.soundness.proofs.Checks.{Sized, mesh_sized, none_cells, placed_below}
use Rattle.tables.specs.declared.MeshTables.{MeshTables}
use Rattle.tables.specs.Lent.{mesh_in}
use Rattle.checks.specs.declared.cells.PlainMesh.{PlainMesh}
use Rattle.checks.specs.declared.parts.Part.{Part}
use Rattle.checks.specs.Held.{within}
use Rattle.checks.specs.declared.parts.Part.TheVariants.{Edge, Face}
use Rattle.checks.specs.Walk.{dimension, size_of, parts_met}
use Rattle.checks.proofs.CornerSets.{within_same}
use Rattle.checks.proofs.WalkLaws.{length_part}

once_met : (t : Topology) → Sized t → repeated_corner t ≡ false → (d : ℕ) → In d dimensions → (p : List ℕ) → In p (met t d) → Once p
unfolding corners_at repeated_corner
once_met t z h d k p i =
    let a = in_met t d p i in
    let κ = a.0.kind in
    let c = a.0.cell in
    let q = a.1 in
    let qi = is_part κ d k q a.2 in
    let below : (j : ℕ) → In j q → j < length c = λ j l. placed_below t z κ c a.0.listed j (placed κ q qi j l) in
    subst Once (sym a.3)
    (once_map (corner c) q (once_part κ q qi) (λ i j k l e. once_place c 0 (repeats_once_numbers c (none_cells t (repeats eqb) h κ c a.0.listed)) i j (below i k) (below j l) e))

among : (of : Part) → In (dimension of) dimensions
among Edge = inr (inl refl)
among Face = inr (inr (inl refl))

-- the parts that the walk of a mesh meets
module _ (of : Part) (t : MeshTables) (i : ℕ) (l : i < length (parts_met of t)) where
  pub listed : In (get_or (parts_met of t) i []) (parts_met of t)
  listed = get_or_in (parts_met of t) i [] l

  pub part_size : length (get_or (parts_met of t) i []) ≡ size_of of
  part_size = length_part of (mesh_in t) (get_or (parts_met of t) i []) listed

  part_plain : repeated_corner (topology (mesh_in t)) ≡ false → repeats eqb (get_or (parts_met of t) i []) ≡ false
  part_plain h =
      once_repeats_numbers (get_or (parts_met of t) i [])
      (once_met (topology (mesh_in t)) (mesh_sized (mesh_in t)) h (dimension of) (among of) (get_or (parts_met of t) i []) listed)

-- two of them have one corner set just where each corner of the one is a corner of the other
module _ (of : Part) (m : PlainMesh) (i j : ℕ) (li : i < length (parts_met of m.tables)) (lj : j < length (parts_met of m.tables)) where
  pub within_parts : within (get_or (parts_met of m.tables) i []) (get_or (parts_met of m.tables) j [])
      ≡ same (key_of (get_or (parts_met of m.tables) i [])) (key_of (get_or (parts_met of m.tables) j []))
  within_parts =
      within_same _ _ (part_size of m.tables i li ∙ sym (part_size of m.tables j lj))
      (part_plain of m.tables i li m.plain) (part_plain of m.tables j lj m.plain)
