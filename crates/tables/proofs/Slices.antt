-- Slices that stay the ones that were lent. Assumes nothing.
use Rattle.std.proofs.Common.{List, refl, ◌∙◌}
use Rattle.std.specs.Borrow.{MutBor}
use Rattle.tables.specs.Lent.{SameSlice}

pub same_slice : {A : Type 0} (s : MutBor (List A)) → SameSlice s s
same_slice s = record { name = refl; long = refl }

pub still_same : {A : Type 0} {a b c : MutBor (List A)} → SameSlice a b → SameSlice b c → SameSlice a c
still_same p q = record { name = q.name ∙ p.name; long = q.long ∙ p.long }
