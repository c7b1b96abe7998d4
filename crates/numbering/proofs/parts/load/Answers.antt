use Rattle.std.proofs.Common.{refl, ◌∙◌, arith, ◌<◌, length}
use Rattle.std.proofs.lemmas.List.{take_more_set}
use Rattle.rules.specs.Split.{corners_at}
use Rattle.numbering.proofs.Rows.{read_more}
use Rattle.numbering.proofs.parts.load.Goals as goal

pub loop-i-init : goal.loop-i-init
unfolding corners_at
loop-i-init c = refl

pub loop-i-preserved : goal.loop-i-preserved
loop-i-preserved c =
    let l = c.loop-i in
    let x = c.args in
    let u : l.i < length l.to = omega arith in
    take_more_set l.to l.i _ u ∙ rw (l.invariant, c.from.ensures) (read_more x.from.now x.places.now l.i c.loop-i-test.true)
