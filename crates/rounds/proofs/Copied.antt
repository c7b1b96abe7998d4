-- A mesh copied to the output tables is ready for the rounds, and what they leave of the copy is the mesh after the rounds. Assumes nothing.
use mathlib.Core.Path.{◌≡◌, sym, ap, subst, ◌∙◌}
use Prim.Native.Nat.{ℕ}
use native.Mathlib.Omega.{arith}
use Rattle.rules.specs.declared.Sizes.{Sizes}
use Rattle.rules.specs.Mesh.{Mesh, topology}
use Rattle.rules.specs.Averaging.{refined}
use Rattle.rules.specs.Counts.{sizes, sizes_after}
use Rattle.rules.specs.EntryPoints.{result_tables}
use Rattle.soundness.specs.Growth.{AtMost}
use Rattle.soundness.proofs.Rounds.{refined_sizes}
use Rattle.soundness.proofs.SplitSizes.{after_grows}
use Rattle.tables.specs.Lent.{Fits}
use Rattle.rounds.specs.declared.working.WorkingNumbers.{WorkingNumbers}
use Rattle.rounds.specs.Front.{sized_front, Room}
use Rattle.rounds.specs.Ready.{ReadyFor}
use Rattle.rounds.proofs.Turns.{Filled, filled, front_begins, result_twice, room_less, room_stored, now_filled}

module _ {n : ℕ} {m : Mesh} {s : Sizes} {out work : Mesh} {numbers : WorkingNumbers} (ready : ReadyFor n m s out work numbers) where
  start_filled : Filled s m
  start_filled = subst (λ (r : Sizes). Filled r m) (sym ready.sized) (filled m ready.accepted.entire)

  start_room : Room s out
  start_room = room_less s (sizes_after n s) out (after_grows n s) ready.room

  pub copy_fits : Fits m out
  copy_fits =
      let f = start_filled in
      let r = start_room in
      record {
        vertices = omega (arith, f.vertices, r.vertices);
        hexes = omega (arith, f.hexes, r.hexes);
        quads = omega (arith, f.quads, r.quads);
        segments = omega (arith, f.segments, r.segments);
        points = omega (arith, f.points, r.points);
      }

  module _ (o : Mesh) (e : o ≡ result_tables 0 out m) where
    pub copied_front : sized_front s o ≡ m
    copied_front = ap (sized_front s) e ∙ front_begins s out m start_filled

    pub ready_copied : ReadyFor n (sized_front s o) s o work numbers
    ready_copied =
        subst (λ (x : Mesh). ReadyFor n x s o work numbers) (sym copied_front)
        (record {
          accepted = ready.accepted;
          sized = ready.sized;
          small = ready.small;
          room = subst (λ (x : Mesh). Room (sizes_after n s) x) (sym e) (room_stored s (sizes_after n s) out m start_filled start_room ready.room);
          working_room = ready.working_room;
          enough_words = ready.enough_words;
          enough_longs = ready.enough_longs;
        })

    -- what the rounds of the copy leave
    pub copy_refined : (o' : Mesh) → o' ≡ result_tables 0 o (refined n (sized_front s o)) → o' ≡ result_tables 0 out (refined n m)
    copy_refined o' g =
        g
        ∙ ap (λ (x : Mesh). result_tables 0 o (refined n x)) copied_front
        ∙ ap (λ (x : Mesh). result_tables 0 x (refined n m)) e
        ∙ result_twice (sizes (topology m)) (sizes (topology (refined n m))) m (refined n m) (filled m ready.accepted.entire) (now_filled ready n (omega arith)) grows out
      where
        grows : AtMost (sizes (topology m)) (sizes (topology (refined n m)))
        grows = subst (λ (r : Sizes). AtMost (sizes (topology m)) r) (sym (refined_sizes n m ready.accepted.sound)) (after_grows n (sizes (topology m)))
