-- Laws of the irregular count.
-- Keeping: how many elements pass a test, all at once or a window at a time.
pub mod Keeping
-- Counts: how often a number stands in a list, and counting the corners of tables.
pub mod Counts
-- Valences: the irregularity of a vertex by these counts is that of the rules.
pub mod Valences
-- Finished: what the lent numbers hold when all is counted.
pub mod Finished
-- Answered: the answer, of a mesh that is refused and of one that is counted.
pub mod Answered
