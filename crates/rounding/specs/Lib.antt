-- Words of inner contracts: rounds of means.
-- Good: what a round must be.
pub mod Good
-- Written: the written coordinates, and where no remainder was left.
pub mod Written
