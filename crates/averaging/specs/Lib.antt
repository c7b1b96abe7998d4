-- Words of inner contracts: the averaging of a round.
-- Sums: sums of numbers 0 .. n - 1.
pub mod Sums
-- Weights: the weights of a cell's corners in its children, by the rules.
pub mod Weights
-- Tally: what is kept for each fine vertex, and what cells add to it.
pub mod Tally
-- Pass: what the pass over a table needs, and what it leaves.
pub mod Pass
-- Ready: what the averaging of a round needs.
pub mod Ready
