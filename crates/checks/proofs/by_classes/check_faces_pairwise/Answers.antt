use Rattle.std.proofs.Common.{◌∙◌, sym}
use Rattle.rules.specs.Split.{distinct_parts}
use Rattle.checks.proofs.by_classes.check_faces_pairwise.Goals as goal

pub returns : goal.returns
unfolding distinct_parts
returns c = (sym c.has_mismatched_face.ensures ∙ c.if-has_mismatched_face.false, c.count_distinct.ensures)
