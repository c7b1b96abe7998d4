-- The third property of what was written, the range of every round, and cleared memory. Assumes nothing.
use mathlib.Core.Path.{◌≡◌, sym, ap, subst, ◌∙◌}
use mathlib.Core.Bool.{true}
use mathlib.Core.List.{List}
use Prim.Native.Nat.{ℕ, suc, ◌*◌}
use lib.ListN.{length, take, replicate}
use lib.IntN.{ℤ, pos}
use Rattle.rules.specs.declared.Counts.{Counts}
use Rattle.rules.specs.declared.Sizes.{Sizes}
use Rattle.rules.specs.declared.CountsAnswer.{CountsAnswer}
use Rattle.rules.specs.Lists.{overwritten}
use Rattle.rules.specs.Mesh.{Mesh, topology}
use Rattle.rules.specs.Averaging.{refined}
use Rattle.rules.specs.Counts.{sizes, sizes_after, counts_in, finished_counts}
use Rattle.rules.specs.EntryPoints.{counts_answer, round_checks, cleared, cleared_tables, result_tables, lent_by, refining_refusal, refining_answer, refining_output, range_kept}
use Rattle.soundness.specs.Accepted.{Accepted}
use Rattle.soundness.proofs.Rounds.{refined_sizes, refined_entire}
use Rattle.rules.specs.Accuracy.{Property3}
use Rattle.rules.specs.Answers.{counts_answer_of}
use Rattle.rules.specs.declared.Refusal.{Refusal}
use Rattle.std.specs.Prelude.{Result, Ok, Err, IfOk, OnOk}
use Rattle.accuracy.proofs.Accepted.{accepted_property_3, range_kept_lem}
use Rattle.plan.proofs.Refusals.{answer_number, both_pass, rounds_then, rounds_pass}
use Rattle.tables.proofs.Five.{same_mesh}
use Rattle.rounds.proofs.Turns.{filled, begins, SameLengths}

-- the written coordinates stand at the front of their table
written_front : (m : Mesh) (rounds : ℕ) (out : List ℤ) → Accepted m → take (3 * (finished_counts rounds (topology m)).vertices) (overwritten out (refined rounds m).vertices) ≡ (refined rounds m).vertices
unfolding finished_counts counts_in
written_front m rounds out a =
    begins (3 * (sizes_after rounds (sizes (topology m))).vertices) out (refined rounds m).vertices
    ((filled (refined rounds m) (refined_entire rounds m a.entire)).vertices ∙ ap (λ (r : Sizes). 3 * r.vertices) (refined_sizes rounds m a.sound))

-- where the call is not refused
module _ (m : Mesh) (rounds : ℕ) (out work : Mesh) (words longs : List ℕ) (c : Counts) (e : counts_answer_of (Ok c) ≡ refining_answer m rounds out work words longs) where
  answered : refining_refusal m rounds (lent_by out work words longs) ≡ 0
  unfolding refining_answer
  answered = sym (answer_number _ _) ∙ sym (ap (λ (x : CountsAnswer). x.refusal) e)

  accepted : Accepted m
  unfolding refining_refusal
  accepted = (rounds_pass m rounds (both_pass (round_checks m rounds 0) _ (sym (rounds_then m rounds _) ∙ answered)).0).accepted

  pub output_accurate : (o : Mesh) → o ≡ refining_output m rounds out work words longs → Property3 rounds m (take (3 * c.vertices) o.vertices)
  unfolding refining_answer refining_output result_tables
  output_accurate o f =
      let v : c.vertices ≡ (finished_counts rounds (topology m)).vertices = ap (λ (x : CountsAnswer). x.counts.vertices) (e ∙ ap (λ (k : ℕ). counts_answer k (finished_counts rounds (topology m))) answered) in
      let w : o.vertices ≡ overwritten out.vertices (refined rounds m).vertices = ap (λ (x : Mesh). x.vertices) (f ∙ ap (λ (k : ℕ). result_tables k out (refined rounds m)) answered) in
      let t : take (3 * c.vertices) o.vertices ≡ (refined rounds m).vertices =
      ap (λ (k : ℕ). take (3 * k) o.vertices) v ∙ ap (take (3 * (finished_counts rounds (topology m)).vertices)) w ∙ written_front m rounds out.vertices accepted in
      subst (λ (ws : List ℤ). Property3 rounds m ws) (sym t) (accepted_property_3 m accepted rounds)

  pub output_in_range : range_kept rounds m ≡ replicate (suc rounds) true
  output_in_range = range_kept_lem m accepted rounds

-- of whatever is answered
module _ (m : Mesh) (rounds : ℕ) (out work : Mesh) (words longs : List ℕ) where
  pub accurate_if_ok : (r : Result Counts Refusal) → counts_answer_of r ≡ refining_answer m rounds out work words longs → (o : Mesh) → o ≡ refining_output m rounds out work words longs → IfOk r (λ (c : Counts). Property3 rounds m (take (3 * c.vertices) o.vertices))
  accurate_if_ok (Ok c) e o f = output_accurate m rounds out work words longs c e o f
  accurate_if_ok (Err r) e o f = tt

  pub in_range_on_ok : (r : Result Counts Refusal) → counts_answer_of r ≡ refining_answer m rounds out work words longs → OnOk r (range_kept rounds m ≡ replicate (suc rounds) true)
  in_range_on_ok (Ok c) e = output_in_range m rounds out work words longs c e
  in_range_on_ok (Err r) e = tt

-- ---- cleared memory

pub cleared_same : (a b : List ℕ) → length b ≡ length a → cleared b ≡ cleared a
cleared_same a b e = ap (λ (n : ℕ). replicate n 0) e

pub tables_same : {a b : Mesh} → SameLengths a b → cleared_tables b ≡ cleared_tables a
unfolding cleared_tables
tables_same {a} {b} l =
    same_mesh (ap (λ (n : ℕ). replicate n (pos 0)) l.vertices)
    (cleared_same a.hexes b.hexes l.hexes)
    (cleared_same a.quads b.quads l.quads)
    (cleared_same a.segments b.segments l.segments)
    (cleared_same a.points b.points l.points)
