-- `listing::main` is safe and ends: what is printed lies within the output.
use Rattle.std.proofs.Common.{◌≡◌, ◌≤◌, ℕ, List, length, length-append, drop, arith, sym}
use Rattle.std.proofs.Math.Seq.{length-take-le}
use Rattle.rules.specs.Lists.{overwritten}
use Rattle.listing.proofs.main.Goals as goal

at_front : (n : ℕ) (old new bytes : List ℕ) → n ≡ length bytes → new ≡ overwritten old bytes → n ≤ length new
unfolding overwritten
at_front n old new bytes e f = rw f (omega (arith, length-append bytes (drop (length bytes) old)))

pub slice_bounds-out-end : goal.slice_bounds-out-end
slice_bounds-out-end c = at_front _ _ _ _ c.lines-count.ensures.count c.lines-count.ensures.output

pub slice_bounds-write_all-end : goal.slice_bounds-write_all-end
slice_bounds-write_all-end c =
    sym (length-take-le _ _ (at_front _ _ _ _ c.lines-count.ensures.count c.lines-count.ensures.output))
