-- Words of inner contracts: what meeting a key with a tag makes of a table as a value.
use Rattle.std.specs.Prelude.{◌≡◌, Result, ℕ, length}
use Rattle.rules.specs.Lists.{Key}
use Rattle.checks.specs.declared.tagged.TaggedKeys.{TaggedKeys}
use Rattle.checks.specs.declared.tagged.Stopped.{Stopped}
use Rattle.checks.specs.Tagged.{TagMet, counted}

module _ {c : ℕ} where
  -- the same table, whatever was met: its memory is the one that was lent, as long as it was
  pub record SameTable (old new : TaggedKeys c) : Type 0 where
    pub words : new.words.ghost_name ≡ old.words.ghost_name
    pub len : length new.words.now ≡ length old.words.now
    pub room : new.room ≡ old.room

  -- a key of c numbers with a tag was met
  abbrev pub KeyMet : TaggedKeys c → TaggedKeys c → Key → ℕ → Result (Unit {0}) Stopped → Type 0
  KeyMet old new k t r = TagMet c old.words.now new.words.now old.room old.known k t (counted r new.known)
