-- Check 7 by the corner across: two faces of the walk, and all of them. Assumes nothing.
use mathlib.Core.Path.{◌≡◌, ap, ◌∙◌}
use mathlib.Core.Bool.{true, false, not, ◌&&◌}
use mathlib.Core.List.{List, []}
use Prim.Native.Nat.{ℕ, ◌<◌}
use lib.Dec.{eqb}
use lib.ListN.{length, get_or}
use borrow.Author.Tests.{eq-eqb, ne_eqb}
use Rattle.rules.specs.Lists.{any, key_of, same}
use Rattle.rules.specs.Mesh.{Topology, topology}
use Rattle.rules.specs.Split.{met}
use Rattle.rules.specs.Refusals.{repeated_corner, mismatched, mismatched_face}
use Rattle.lists.specs.Membership.{In}
use Rattle.lists.proofs.Membership.{get_or_in}
use Rattle.lists.proofs.Tests.{in_any, in_none, both_and, false_and}
use Rattle.lists.proofs.Keys.{same_eq, eq_same}
use Rattle.soundness.specs.Across.{across}
use Rattle.soundness.proofs.Checks.{Sized, mesh_sized}
use Rattle.soundness.proofs.Across.{met_quad, mismatched_across}
use Rattle.checks.specs.declared.classes.Walk.TheVariants.{Faces}
use Rattle.checks.specs.declared.cells.PlainMesh.{PlainMesh}
use Rattle.checks.specs.declared.parts.Part.TheVariants.{Face}
use Rattle.tables.specs.declared.MeshTables.{MeshTables}
use Rattle.tables.specs.Lent.{mesh_in}
use Rattle.checks.specs.Walk.{parts_met}
use Rattle.checks.specs.Classes.{Agreeing, Apart}

module _ (t : Topology) (z : Sized t) (h₅ : repeated_corner t ≡ false) where
  -- two faces of the walk
  mismatched_in : (f g : List ℕ) → In f (met t 2) → In g (met t 2)
      → mismatched f g ≡ (same (key_of f) (key_of g) && not (eqb (across f) (across g)))
  mismatched_in f g i j = mismatched_across f g (met_quad t z h₅ f i) (met_quad t z h₅ g j)

  -- what the walk of all faces found
  pub apart_mismatched : {tables : MeshTables} → Apart (Faces tables) (met t 2) → mismatched_face t ≡ true
  unfolding mismatched_face
  apart_mismatched a =
      let f = a.one in
      let g = a.other in
      in_any (λ (f : List ℕ). any (mismatched f) (met t 2)) (met t 2) f a.one_in
      (in_any (mismatched f) (met t 2) g a.other_in
      (mismatched_in f g a.one_in a.other_in
      ∙ both_and (same (key_of f) (key_of g)) (not (eqb (across f) (across g))) (eq_same (key_of f) (key_of g) a.keys)
      (ap not (ne_eqb (across f) (across g) a.tags))))

  pub agreeing_matched : {tables : MeshTables} {n : ℕ} → Agreeing (Faces tables) (met t 2) n → mismatched_face t ≡ false
  unfolding mismatched_face
  agreeing_matched a =
      in_none (λ (f : List ℕ). any (mismatched f) (met t 2)) (met t 2)
      (λ f i. in_none (mismatched f) (met t 2) (λ g j. mismatched_in f g i j
      ∙ false_and (same (key_of f) (key_of g)) (not (eqb (across f) (across g)))
      (λ e. ap not (eq-eqb (across f) (across g) (a.agree f g i j (same_eq (key_of f) (key_of g) e))))))

-- two faces by number
module _ (p : PlainMesh) (i j : ℕ) (k : i < length (parts_met Face p.tables)) (l : j < length (parts_met Face p.tables)) where
  abbrev F : List (List ℕ)
  F = parts_met Face p.tables

  pub mismatched_at : mismatched (get_or F i []) (get_or F j [])
      ≡ (same (key_of (get_or F i [])) (key_of (get_or F j [])) && not (eqb (across (get_or F i [])) (across (get_or F j []))))
  mismatched_at =
      let m = mesh_in p.tables in
      mismatched_in (topology m) (mesh_sized m) p.plain (get_or F i []) (get_or F j [])
      (get_or_in F i [] k) (get_or_in F j [] l)
