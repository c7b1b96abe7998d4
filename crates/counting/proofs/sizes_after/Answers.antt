-- One more round.
use Rattle.std.proofs.Common.{◌+◌, sym, subst, ◌∙◌, arith}
use Rattle.rules.specs.declared.Sizes.{Sizes}
use Rattle.counting.specs.Bounded.{Bounded}
use Rattle.counting.proofs.Sizes.{bound, bound_next, bound_fits, after_next, after_none}
use Rattle.counting.proofs.sizes_after.Goals as goal

pub next_sizes-now-requires : goal.next_sizes-now-requires
next_sizes-now-requires c = let l = c.loop in bound_fits l.counter l.now (omega arith) l.invariant.bounded

pub loop-preserved : goal.loop-preserved
loop-preserved c =
    let l = c.loop in
    let e = c.next_sizes-now.ensures in
    record {
      left = rw e (after_next c.args.rounds l.counter l.now (omega arith) ∙ l.invariant.left);
      bounded = subst (λ (s : Sizes). Bounded (bound (l.counter + 1)) s) (sym e) (bound_next l.counter l.now l.invariant.bounded);
    }

pub returns : goal.returns
returns c = let l = c.loop in sym (after_none c.args.rounds l.counter l.now (omega arith)) ∙ l.invariant.left
