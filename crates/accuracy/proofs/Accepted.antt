-- A mesh that passes checks 1 to 8: its rounds have the third property, keep the coordinates in range, and pass the checks again.
use mathlib.Core.Path.{◌≡◌, ap}
use mathlib.Core.Bool.{true, false, not}
use Prim.Native.Nat.{ℕ, suc, ◌%◌}
use borrow.Author.Tests.{eqb-true, not-false}
use lib.ListN.{length, replicate}
use Rattle.rules.specs.Mesh.{Mesh, topology}
use Rattle.rules.specs.Averaging.{refined}
use Rattle.rules.specs.Accuracy.{Property3}
use Rattle.rules.specs.Refusals.{partial_entry, coordinate_out_of_range, too_large}
use Rattle.rules.specs.EntryPoints.{range_kept}
use Rattle.lists.proofs.Membership.{run_same}
use Rattle.lists.proofs.Tests.{or_neither}
use Rattle.soundness.specs.Accepted.{Accepted}
use Rattle.soundness.proofs.Rounds.{refined_accepted}
use Rattle.accuracy.proofs.Property3.{property_3}
use Rattle.accuracy.proofs.Range.{all_in_range, refined_range}

entire_vertices : (m : Mesh) → partial_entry m ≡ false → length m.vertices % 3 ≡ 0
unfolding partial_entry
entire_vertices m h = eqb-true (length m.vertices % 3) 0 (not-false _ (or_neither _ _ h).0)

module _ (m : Mesh) (ok : Accepted m) where
  pub accepted_property_3 : (k : ℕ) → Property3 k m (refined k m).vertices
  accepted_property_3 k = property_3 k m ok.sound (entire_vertices m ok.entire)

  pub refined_near : (k : ℕ) → coordinate_out_of_range (refined k m) ≡ false
  refined_near k =
      (all_in_range (refined k m)).1 (refined_range m ok.sound (entire_vertices m ok.entire) ((all_in_range m).0 ok.near) k)

  pub range_kept_lem : (rounds : ℕ) → range_kept rounds m ≡ replicate (suc rounds) true
  unfolding range_kept
  range_kept_lem rounds = run_same _ true 0 (suc rounds) (λ k. ap not (refined_near k))

  pub accepted_again : (k : ℕ) → too_large k (topology m) ≡ false → Accepted (refined k m)
  accepted_again k h = refined_accepted k m ok h (refined_near k)
