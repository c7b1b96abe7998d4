-- The word is copied behind the text.
use Rattle.std.proofs.Common.{refl}
use Rattle.lines.proofs.Runs.{word_stored}
use Rattle.lines.proofs.text.Text.push_word.Goals as goal

pub returns : goal.returns
returns c = record {
  same_buffer = refl;
  stored = word_stored c.args.self.now.buffer.now c.args.word.now c.copy_from_slice.new.self c.args.self.now.length c.copy_from_slice.ensures.after c.requires.fits;
  behind = refl;
}
