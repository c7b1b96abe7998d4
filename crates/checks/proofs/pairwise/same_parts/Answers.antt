use Rattle.std.proofs.Common.{◌∙◌}
use Rattle.checks.proofs.PlainParts.{within_parts}
use Rattle.checks.proofs.pairwise.same_parts.Goals as goal

pub returns-in-Edge : goal.returns-in-Edge
returns-in-Edge c =
    rw (c.read.ensures, c.read-in-Edge.ensures) at c.is_within.ensures ∙ within_parts c.args.of c.args.mesh c.args.i c.args.j c.requires.0 c.requires.1

pub returns-in-Face : goal.returns-in-Face
returns-in-Face c =
    rw (c.read-in-Face.ensures, c.read-in-Face-2.ensures) at c.is_within-in-Face.ensures
    ∙ within_parts c.args.of c.args.mesh c.args.i c.args.j c.requires.0 c.requires.1
