-- The table of samples, in parts, and the one claim that covers it: each row holds (proofs/Samples.antt).
use Rattle.rules.specs.Lists.{Each}
use Rattle.rules.specs.SampleClaims.{Holds}
use Rattle.rules.specs.PartRows.{part_rows}
use Rattle.rules.specs.RoundRows.{round_rows}
use Rattle.rules.specs.AccuracyRows.{accuracy_rows}
use Rattle.rules.specs.RefusalRows.{refusal_rows}
use Rattle.rules.specs.EntryRows.{entry_rows}
use Rattle.rules.specs.StoredRows.{stored_rows}

pub record Samples : Type 0 where
  pub parts : Each Holds part_rows
  pub rounds : Each Holds round_rows
  pub accuracy : Each Holds accuracy_rows
  pub refusals : Each Holds refusal_rows
  pub entries : Each Holds entry_rows
  pub stored : Each Holds stored_rows
