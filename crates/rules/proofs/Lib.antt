-- Constants: the constant tables are those of the rules.
pub mod Constants
-- Named: refusals by name and their numbers.
pub mod Named
-- Samples: the table of samples, computed.
pub mod Samples
