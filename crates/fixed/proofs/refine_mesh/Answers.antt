-- The working memory has the fixed sizes.
use Rattle.std.proofs.Common.{refl}
use Rattle.rules.specs.Counts.{counts_of}
use Rattle.fixed.proofs.Answers.{FixedMemory, refined_answer, refined_output}
use Rattle.fixed.proofs.refine_mesh.Goals as goal

pub returns-clause-answer : goal.returns-clause-answer
unfolding counts_of
returns-clause-answer c =
    let f : FixedMemory _ _ _ _ = record { output = c.requires; working = c.lend-working.ensures.sizes; words = refl; longs = refl } in
    refined_answer f _ _ c.refine.ensures.answer

pub returns-clause-output : goal.returns-clause-output
unfolding counts_of
returns-clause-output c =
    let f : FixedMemory _ _ _ _ = record { output = c.requires; working = c.lend-working.ensures.sizes; words = refl; longs = refl } in
    refined_output f _ _ c.refine.ensures.output
