-- Five: five tables at once, and parts of them.
pub mod Five
-- Slices: slices that stay the ones that were lent.
pub mod Slices
