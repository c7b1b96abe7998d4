-- The bytes of what the kit prints.
use Rattle.lines.proofs.text.Text.push_number.Goals as goal

pub push_word-requires : goal.push_word-requires
push_word-requires g c = rw (c.as_bytes.ensures.value, c.format.ensures.text) c.requires

pub returns : goal.returns
returns g c = rw (c.as_bytes.ensures.value, c.format.ensures.text) at c.push_word.ensures
