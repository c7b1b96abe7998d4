-- Words of inner contracts: the numbers that are lent for working.
use Rattle.tables.specs.Lent.{SameSlice}
use Rattle.rounds.specs.declared.working.WorkingNumbers.{WorkingNumbers}

-- a call returns the very slices of numbers that it was lent
pub record SameNumbers (old new : WorkingNumbers) : Type 0 where
  pub words : SameSlice old.words new.words
  pub longs : SameSlice old.longs new.longs
