-- Words of inner contracts: bytes appended to a text: every function that prints promises this, and needs this room.
use Rattle.std.specs.Prelude.{◌≡◌, List, ℕ, ◌+◌, ◌≤◌, length}
use Rattle.std.proofs.lemmas.List.Edits.{sets}
use Rattle.lines.specs.declared.text.Text.{Text}

-- the buffer has places for the bytes behind the text
pub record Room (t : Text) (bytes : List ℕ) : Type 0 where
  pub fits : t.length + length bytes ≤ length t.buffer.now

-- The bytes are stored behind the text, in the very buffer that was lent, and nothing else is changed in it.
pub record Appended (old new : Text) (bytes : List ℕ) : Type 0 where
  pub same_buffer : new.buffer.ghost_name ≡ old.buffer.ghost_name
  pub stored : new.buffer.now ≡ sets old.buffer.now old.length bytes
  pub behind : new.length ≡ old.length + length bytes

-- a text that has room for some bytes ends with them
pub record Printed (old new : Text) (bytes : List ℕ) : Type 0 where
  pub room : Room old bytes
  pub appended : Appended old new bytes
