-- Each return is a case of the checks behind an accepted header (`BodyChecks`).
use Rattle.std.proofs.Common.{◌≡◌, false, sym, subst, ◌∙◌, arith}
use Rattle.rules.specs.declared.Counts.{Counts}
use Rattle.rules.specs.Counts.{out_of_range}
use Rattle.stored.proofs.Acceptance.{header_accepted}
use Rattle.stored.proofs.BodyChecks.{Body, body_known, wrong_length_lem, spare_bit, corner, body_passed}
use Rattle.stored.proofs.FileChecks.{headed}
use Rattle.stored.proofs.file.check_body.Goals as goal
use Rattle.stored.proofs.file.check_body.Goals.{After-layout_of-at}

-- what is known behind the header
body : (c : After-layout_of-at) → Body c.args.file.bytes.now c.args.file.counts c.layout_of-at.result
body c =
    let f = c.args.file in
    body_known f.bytes.now f.counts c.layout_of-at.result (header_accepted f.bytes.now 0 c.requires).0 (headed f).1 c.layout_of-at.ensures

pub layout_of-at-requires : goal.layout_of-at-requires
layout_of-at-requires c =
    let f = c.args.file in
    subst (λ (d : Counts). out_of_range d ≡ false) (headed f).1 (header_accepted f.bytes.now 0 c.requires).0.range

pub returns-then-s-at : goal.returns-then-s-at
returns-then-s-at c = wrong_length_lem (body (goal.at.returns-then-s-at c).After-layout_of-at) c.if-s-at.true

pub overflow_mul-at : goal.overflow_mul-at
overflow_mul-at c = omega (arith, (body (goal.at.overflow_mul-at c).After-layout_of-at).numbers)

pub overflow_sub-at : goal.overflow_sub-at
overflow_sub-at c = (body (goal.at.overflow_sub-at c).After-layout_of-at).numbers.fits

pub overflow_cast-at : goal.overflow_cast-at
overflow_cast-at c = omega (arith, (body (goal.at.overflow_cast-at c).After-layout_of-at).numbers)

pub get_field-filling-requires : goal.get_field-filling-requires
get_field-filling-requires c =
    omega (arith, (body (goal.at.get_field-filling-requires c).After-layout_of-at).numbers, c.if-s-at.false)

pub returns-then-filling-ne0 : goal.returns-then-filling-ne0
returns-then-filling-ne0 c =
    spare_bit (body (goal.at.returns-then-filling-ne0 c).After-layout_of-at) c.if-s-at.false
    (λ e. c.if-filling-ne0.true (c.get_field-filling.ensures ∙ e))

pub reaches-requires : goal.reaches-requires
reaches-requires c =
    let b = body (goal.at.reaches-requires c).After-layout_of-at in
    omega (arith, b.numbers, b.small.width, c.if-s-at.false)

pub returns-then-reaches : goal.returns-then-reaches
returns-then-reaches c =
    corner (body (goal.at.returns-then-reaches c).After-layout_of-at) c.if-s-at.false
    (sym c.get_field-filling.ensures ∙ c.if-filling-ne0.false) (sym c.reaches.ensures ∙ c.if-reaches.true)

pub returns : goal.returns
returns c =
    body_passed (body (goal.at.returns c).After-layout_of-at) c.if-s-at.false
    (sym c.get_field-filling.ensures ∙ c.if-filling-ne0.false) (sym c.reaches.ensures ∙ c.if-reaches.false)
