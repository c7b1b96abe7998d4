-- A refusal's number is not 0, so that it stands below zero.
use Rattle.std.proofs.Common.{◌≡◌, ◌∙◌, arith}
use Rattle.std.proofs.lemmas.Int.{ints}
use lib.IntN.{pos, neg_ℤ, ◌-ℤ◌}
use mir.Syntax.{w64}
use mir.Val.{to_z, of_z}
use Rattle.rules.specs.Answers.{number_of}
use Rattle.plan.proofs.Refusals.{not_zero}
use Rattle.mlca.proofs.Numbers.{below_zero}
use Rattle.mlca.proofs.viewer.signed.Goals as goal

pub returns-in-Err : goal.returns-in-Err
returns-in-Err c =
    let n = number_of c.in-Err.refusal in
    let minus : to_z w64 (of_z w64 (pos 0 -ℤ to_z w64 (of_z w64 c.from-in-Err.result))) ≡ neg_ℤ (pos n) = omega (arith, ints) in
    rw c.in-Err.is (minus ∙ below_zero n 0 (not_zero c.in-Err.refusal))
