use Rattle.std.proofs.Common.{◌≡◌, ◌+◌, suc, [], ◌∷◌, ◌++◌, length, get_or, drop, ap, ◌∙◌}
use native.Mathlib.Nat.{mul-zero}
use lib.ListN.{length-append}
use lib.Seq.{take_all}
use Rattle.std.specs.Slice.Iter.{chunks_exact_rest, chunks_exact_size}
use Rattle.rules.specs.Lists.{concat_map, cut}
use Rattle.numbering.specs.Parts.{listed_keys}
use Rattle.numbering.proofs.Passes.{chunk, chunk_end, concat_map_at, concat_map_turn, met_none, met_append, full_later}
use Rattle.numbering.proofs.parts.meet_cells.Goals as goal

pub loop-cell-init : goal.loop-cell-init
unfolding concat_map
loop-cell-init g c =
    let h = c.into_iter-cell-iterator.ensures.into_iter_gives in
    record {
      size_is = ap chunks_exact_size h ∙ c.chunks_exact-cell-items.ensures.size;
      left = rw (mul-zero c.args.corners) (ap chunks_exact_rest h ∙ c.chunks_exact-cell-items.ensures.rest);
      met = met_none c.requires.table;
    }

pub returns-in_err-known : goal.returns-in_err-known
returns-in_err-known g c =
    let l = c.loop-cell in
    let cs = cut c.args.corners c.args.cells.now in
    let i = length l.yielded in
    let f = listed_keys g.row.C c.args.places.now in
    let h = c.in-Some.ensures.steps.1 in
    let u = chunk c.args.cells.now c.requires.corners_nonzero l.invariant.left h.0 (h.1 ∙ l.invariant.size_is) in
    rw (c.from_residual.ensures, concat_map_at f cs i [] u.listed)
    (full_later l.invariant.met (f (get_or cs i [])) (concat_map f (drop (suc i) cs)) (rw u.cell at c.in_err-known.ensures))

pub loop-cell-preserved : goal.loop-cell-preserved
loop-cell-preserved g c =
    let l = c.loop-cell in
    let h = c.in-Some.ensures.steps.1 in
    let u = chunk c.args.cells.now c.requires.corners_nonzero l.invariant.left h.0 (h.1 ∙ l.invariant.size_is) in
    let n : length (l.yielded ++ c.in-Some.cell ∷ []) ≡ length l.yielded + 1 = length-append l.yielded (c.in-Some.cell ∷ []) in
    record {
      size_is = c.in-Some.ensures.steps.0 ∙ l.invariant.size_is;
      left = rw n u.left;
      met =
          rw (n, concat_map_turn (listed_keys g.row.C c.args.places.now) (cut c.args.corners c.args.cells.now) (length l.yielded) [] u.listed)
          (met_append l.invariant.met (rw u.cell at c.in_ok-known.ensures).met);
    }

pub returns : goal.returns
returns g c =
    let l = c.loop-cell in
    let e = chunk_end c.args.cells.now c.requires.corners_nonzero l.invariant.left (rw l.invariant.size_is at c.in-None.ensures.steps.1.0) in
    rw (take_all (length l.yielded) (cut c.args.corners c.args.cells.now) e) at l.invariant.met
