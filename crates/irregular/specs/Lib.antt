-- Words of inner contracts: what the contracts of the irregular count cite besides the rules.
-- Times: how often a vertex is named in a table, and its irregularity by these counts.
pub mod Times
-- Tallied: what counting the corners of a table in lent numbers leaves there.
pub mod Tallied
