-- Fronts: a mesh at the front of tables, copied to the front of others.
pub mod Fronts
-- Turns: the rounds in place.
pub mod Turns
-- OneRound: what splitting and averaging need, and what they leave.
pub mod OneRound
-- Copied: a mesh copied to the output tables, and what the rounds leave of it.
pub mod Copied
-- Narrowed: sizes that fit 32 bits, and fronts by counts.
pub mod Narrowed
-- Lent: tables and numbers that stay the ones that were lent.
pub mod Lent
