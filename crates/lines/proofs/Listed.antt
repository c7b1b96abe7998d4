-- What is listed of a refusal and of a finished mesh, and the tests of the input. Assumes nothing.
use mathlib.Core.Path.{◌≡◌, refl, sym, ap, ◌∙◌}
use mathlib.Core.List.{List}
use Prim.Native.Nat.{ℕ, zero, suc, ◌-◌, ◌≤◌, ◌<◌}
use native.Mathlib.Omega.{arith}
use lib.Dec.{ltb}
use lib.ListN.{length, take, drop, get_or, length-drop}
use lib.Seq.{take_all}
use borrow.Author.Tests.{lt-ltb, le-ltb, ltb-false, ne_eqb}
use Rattle.rules.specs.declared.CountsAnswer.{CountsAnswer}
use Rattle.rules.specs.Mesh.{Mesh, topology}
use Rattle.rules.specs.Averaging.{refined}
use Rattle.rules.specs.Counts.{finished_counts, fewer}
use Rattle.rules.specs.StoredForm.{stored_mesh}
use Rattle.rules.specs.Viewer.{stored_refining_refusal}
use Rattle.rules.specs.Listing.{refused_line, mesh_lines, listing_refusal, listed, listing}
use Rattle.lists.proofs.Tests.{or_neither}
use Rattle.accuracy.proofs.Accepted.{refined_near}
use Rattle.lines.specs.Fitting.{Fitting}
use Rattle.fixed.proofs.Finished.{Accepts, finished_sized, Refining, refusal_is}

refusal_listed : (k : ℕ) (m : Mesh) → (k ≡ 0 → ⊥) → listed k m ≡ refused_line k
refusal_listed zero m h = absurd (h refl)
refusal_listed (suc k) m h = refl

-- ---- a stored mesh after its rounds

module _ {s : List ℕ} {rounds : ℕ} {old out : Mesh} {r : CountsAnswer} (d : Refining s rounds old out r) where
  pub listed_refused : (r.refusal ≡ 0 → ⊥) → refused_line r.refusal ≡ listed (stored_refining_refusal s rounds) (refined rounds (stored_mesh s))
  listed_refused h = rw (refusal_is d) (sym (refusal_listed (stored_refining_refusal s rounds) _ (λ k. h (refusal_is d ∙ k))))

  pub listed_accepted : r.refusal ≡ 0 → mesh_lines (refined rounds (stored_mesh s)) ≡ listed (stored_refining_refusal s rounds) (refined rounds (stored_mesh s))
  listed_accepted h = ap (λ (k : ℕ). listed k (refined rounds (stored_mesh s))) (sym h ∙ refusal_is d)

-- the finished mesh fits the output
pub finished_fits : (m : Mesh) (rounds : ℕ) → Accepts m rounds → Fitting (refined rounds m)
unfolding fewer
finished_fits m rounds a =
    let f = finished_counts rounds (topology m) in
    let z = finished_sized m rounds a.accepted in
    let v = or_neither (ltb 1_000 f.vertices) _ a.places in
    let h = or_neither (ltb 256 f.hexes) _ v.1 in
    let q = or_neither (ltb 256 f.quads) _ h.1 in
    let s = or_neither (ltb 256 f.segments) (ltb 256 f.points) q.1 in
    record {
      vertices = omega (arith, z.vertices, ltb-false 1_000 f.vertices v.0);
      hexes = omega (arith, z.hexes, ltb-false 256 f.hexes h.0);
      quads = omega (arith, z.quads, ltb-false 256 f.quads q.0);
      segments = omega (arith, z.segments, ltb-false 256 f.segments s.0);
      points = omega (arith, z.points, ltb-false 256 f.points s.1);
      near = refined_near m a.accepted rounds;
    }

-- ---- the input

module _ (input : List ℕ) where
  pub over_limit : 16_385 < length input → refused_line 11 ≡ listing input
  unfolding listing listing_refusal
  over_limit h = rw (lt-ltb 16_385 (length input) h)

  pub no_byte : length input ≡ 0 → refused_line 13 ≡ listing input
  unfolding listing listing_refusal
  no_byte h = rw h

  -- what stands behind the first byte
  pub some_bytes : length input ≤ 16_385 → (length input ≡ 0 → ⊥) → let s = take (length input - 1) (drop 1 input) in
      listed (stored_refining_refusal s (get_or input 0 0)) (refined (get_or input 0 0) (stored_mesh s)) ≡ listing input
  unfolding listing listing_refusal
  some_bytes l h =
      let whole : take (length input - 1) (drop 1 input) ≡ drop 1 input = take_all (length input - 1) (drop 1 input) (omega (arith, length-drop 1 input)) in
      sym (rw (whole, le-ltb 16_385 (length input) l, ne_eqb (length input) 0 h))
