-- Refusals by name, and the answers that results lead to (sections 6 and 7).
use Rattle.std.specs.Prelude.{ℕ, pos, Result, Ok, Err}
use Rattle.rules.specs.declared.Counts.{Counts}
use Rattle.rules.specs.declared.Refusal.{Refusal}
use Rattle.rules.specs.declared.Refusal.TheVariants.{PartialEntry, CountOutOfRange, CoordinateOutOfRange, CornerOutOfRange, RepeatedCorner, DuplicateCell, MismatchedFace, IsolatedVertex, TooManyRounds, ResultTooLarge, ShortBuffer, WrongFileLength, UnknownForm, WrongIndexWidth, NonzeroPadding}
use Rattle.rules.specs.declared.CountsAnswer.{CountsAnswer}
use Rattle.rules.specs.declared.CountAnswer.{CountAnswer}
use Rattle.rules.specs.declared.Millimetres.{Millimetres}
use Rattle.rules.specs.declared.MillimetresAnswer.{MillimetresAnswer}
use Rattle.rules.specs.Counts.{no_counts}
use Rattle.rules.specs.EntryPoints.{in_millimetres}

-- the refusal's number: that of its rule (section 7)
abbrev pub number_of : Refusal → ℕ
number_of PartialEntry = 1
number_of CountOutOfRange = 2
number_of CoordinateOutOfRange = 3
number_of CornerOutOfRange = 4
number_of RepeatedCorner = 5
number_of DuplicateCell = 6
number_of MismatchedFace = 7
number_of IsolatedVertex = 8
number_of TooManyRounds = 9
number_of ResultTooLarge = 10
number_of ShortBuffer = 11
number_of WrongFileLength = 13
number_of UnknownForm = 14
number_of WrongIndexWidth = 15
number_of NonzeroPadding = 16

-- the number of what refused a call; 0 is no refusal (rule 6.1)
abbrev pub refusal_of : {A : Type 0} → Result A Refusal → ℕ
refusal_of (Ok x) = 0
refusal_of (Err r) = number_of r

-- five counts beside the refusal number; zeros on refusal (rules 6.1 and 6.3)
abbrev pub counts_answer_of : Result Counts Refusal → CountsAnswer
counts_answer_of (Ok c) = record { refusal = 0; counts = c }
counts_answer_of (Err r) = record { refusal = number_of r; counts = no_counts }

-- one count beside the refusal number; 0 on refusal (rules 6.1 and 6.3)
abbrev pub count_answer_of : Result ℕ Refusal → CountAnswer
count_answer_of (Ok n) = record { refusal = 0; count = n }
count_answer_of (Err r) = record { refusal = number_of r; count = 0 }

-- the position that is given beside a refusal: zeros (rule 6.3)
abbrev pub no_position : Millimetres
no_position = record { x = in_millimetres (pos 0); y = in_millimetres (pos 0); z = in_millimetres (pos 0) }

-- a position beside the refusal number; zeros on refusal (rules 6.1 and 6.3)
abbrev pub millimetres_answer_of : Result Millimetres Refusal → MillimetresAnswer
millimetres_answer_of (Ok p) = record { refusal = 0; position = p }
millimetres_answer_of (Err r) = record { refusal = number_of r; position = no_position }
