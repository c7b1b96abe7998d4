-- Words of inner contracts: what is lent, as the rules speak of it.
use Rattle.rules.specs.Counts.{counts_in}
use Rattle.rules.specs.EntryPoints.{Lent as Lengths}
use Rattle.refine.specs.declared.lending.Lent.{Lent}

abbrev pub lengths : Lent → Lengths
lengths l = record { output = counts_in l.output; working = counts_in l.working; words = l.words; longs = l.longs }
