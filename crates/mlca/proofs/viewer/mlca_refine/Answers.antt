-- What the bytes promise, as one number.
use Rattle.std.proofs.Common.{◌∙◌}
use mir.Syntax.{w64}
use mir.Facts.{to_z-of_z}
use Rattle.mlca.proofs.Promised.{promised}
use Rattle.mlca.proofs.viewer.mlca_refine.Goals as goal

pub returns-clause-accuracy : goal.returns-clause-accuracy
returns-clause-accuracy c =
    (promised c.args.stored.now c.args.rounds c.args.res.now (to_z-of_z {w = w64} (record { sfits = c.signed.type_inv }) ∙ c.signed.ensures ∙ c.refine_bytes.ensures.answer) c.refine_bytes.ensures.output).1.1.0

pub returns-clause-range : goal.returns-clause-range
returns-clause-range c =
    (promised c.args.stored.now c.args.rounds c.args.res.now (to_z-of_z {w = w64} (record { sfits = c.signed.type_inv }) ∙ c.signed.ensures ∙ c.refine_bytes.ensures.answer) c.refine_bytes.ensures.output).1.1.1
