-- The default, 0.0, is no millimetres.
use Rattle.std.proofs.Common.{◌≡◌, ap, rules}
use lib.Ieee.{binary64, of_bits}
use Rattle.rules.specs.declared.Millimetres.{Millimetres}
use Rattle.rules.specs.declared.MillimetresAnswer.{MillimetresAnswer}
use Rattle.rules.specs.Answers.{number_of, no_position}
use Rattle.rules.specs.EntryPoints.{in_millimetres}
use Rattle.rules.proofs.answers.MillimetresAnswerFromResultMillimetresRefusal.from.Goals as goal

zeros : (p : Millimetres) → p.x ≡ of_bits binary64 0 → p.y ≡ of_bits binary64 0 → p.z ≡ of_bits binary64 0 → p ≡ no_position
unfolding in_millimetres of_bits
zeros p a b c = λ i. record { x = a i; y = b i; z = c i }

pub returns-in-Err : goal.returns-in-Err
returns-in-Err c =
    let answer : Millimetres → MillimetresAnswer = λ p. record { refusal = number_of c.in-Err.refusal; position = p } in
    rw (c.in-Err.is, c.from.ensures) (ap answer (zeros _ (search rules) (search rules) (search rules)))
