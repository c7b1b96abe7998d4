-- Laws that the proofs of the averaging share.
-- Sums: sums of numbers 0 .. n - 1.
pub mod Sums
-- Biased: a coordinate with 2 ^ 29 added.
pub mod Biased
-- Chunks: the entries of a table are its chunks.
pub mod Chunks
-- Stores: what the stores of a vertex's numbers make of its tally.
pub mod Stores
-- Steps: laws of steps over tallies, and that the tallies fit.
pub mod Steps
-- Triples: three elements stored at 3 f, 3 f + 1, 3 f + 2.
pub mod Triples
-- Folds: steps over the elements of a list.
pub mod Folds
-- ChildSums: the sum over a child's corners is that by the weights.
pub mod ChildSums
-- Passed: a pass over the cells in rising dimension leaves the rank, the valence and the sum that the rules count.
pub mod Passed
-- Children: the pass over a table is that over its children.
pub mod Children
-- Tables: a ready mesh's tables are such as the pass takes.
pub mod Tables
-- Round: the tallies that the four passes leave, divided, are the coordinates after the round.
pub mod Round
-- Rows: the tables of weights are those of the rules.
pub mod Rows
