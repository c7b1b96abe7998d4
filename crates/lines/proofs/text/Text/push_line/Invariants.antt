-- The fields of the numbers met stand behind the word.
use Rattle.std.proofs.Common.{take}
use Rattle.rules.specs.Lists.{concat_map}
use Rattle.lines.specs.Appended.{Appended}
use Rattle.lines.proofs.Fields.{field}
use Rattle.lines.proofs.text.Text.push_line.Given as goal

abbrev pub invariant-loop-number : goal.invariant-loop-number
invariant-loop-number g l = Appended l.initial.self l.self (concat_map (field g.I.Integer.text) (take l.number-index l.numbers))
