-- Laws of rounds.
-- Draws: weighted sums, over joined lists and in biased numbers.
pub mod Draws
-- Exact: the exact coordinates are what they should be.
pub mod Exact
-- Lag: how far the written coordinate is behind the exact one.
pub mod Lag
-- NoLag: it is not behind exactly when no division that feeds it left a remainder.
pub mod NoLag
-- Box: the written coordinates stay inside the bounding box.
pub mod Box
-- Accurate: the third property, for rounds of means.
pub mod Accurate
