use Rattle.std.proofs.Common.{◌∙◌}
use Rattle.checks.specs.declared.parts.Part.TheVariants.{Face}
use Rattle.checks.proofs.Mismatch.{mismatched_at}
use Rattle.checks.proofs.PlainParts.{within_parts}
use Rattle.checks.proofs.pairwise.is_mismatched.Goals as goal

pub returns-then-is_within : goal.returns-then-is_within
returns-then-is_within c =
    let a = c.args in
    let w = rw (c.read-f.ensures, c.read-g.ensures) at c.is_within.ensures ∙ within_parts Face a.mesh a.i a.j c.requires.0 c.requires.1 in
    rw (mismatched_at a.mesh a.i a.j c.requires.0 c.requires.1, ← w, c.if-is_within.true, c.across.ensures, c.across-then-is_within.ensures, c.read-f.ensures, c.read-g.ensures)

pub returns-else-is_within : goal.returns-else-is_within
returns-else-is_within c =
    let a = c.args in
    let w = rw (c.read-f.ensures, c.read-g.ensures) at c.is_within.ensures ∙ within_parts Face a.mesh a.i a.j c.requires.0 c.requires.1 in
    rw (mismatched_at a.mesh a.i a.j c.requires.0 c.requires.1, ← w, c.if-is_within.false)
