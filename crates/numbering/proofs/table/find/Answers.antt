use Rattle.std.proofs.Common.{refl, arith}
use Rattle.std.proofs.lemmas.Bool.{false≢true}
use Rattle.numbering.proofs.Entries.{walk_start, walk_on, walk_less, walk_hit, walk_end}
use Rattle.numbering.proofs.table.find.Goals as goal

pub loop-link-init : goal.loop-link-init
loop-link-init c = walk_start c.requires.table c.args.key.now _ _ c.requires.s_value refl

pub returns-then-is_at : goal.returns-then-is_at
returns-then-is_at c =
    let l = c.loop-link in
    walk_hit c.requires.table c.args.key.now l.link _ _ (omega arith) c.place-at.ensures l.invariant (c.is_at.ensures.0 c.if-is_at.true) _ (omega arith)

pub loop-link-smaller : goal.loop-link-smaller
loop-link-smaller c =
    let l = c.loop-link in
    walk_less c.requires.table c.args.key.now l.link _ _ (omega arith) c.place-at.ensures l.invariant _ (omega arith) (λ e. false≢true (c.if-is_at.ensures.1 e))

pub loop-link-preserved : goal.loop-link-preserved
loop-link-preserved c =
    let l = c.loop-link in
    walk_on c.requires.table c.args.key.now l.link _ _ (omega arith) c.place-at.ensures l.invariant _ (omega arith) (λ e. false≢true (c.if-is_at.ensures.1 e))

pub returns : goal.returns
returns c =
    walk_end c.requires.table c.args.key.now c.loop-link.link (omega arith) c.loop-link.invariant
