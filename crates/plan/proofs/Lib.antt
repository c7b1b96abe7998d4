-- Refusals: checks 1 to 10 one after the other, and what a mesh that passes them is.
pub mod Refusals
-- Sizes: the sizes of a mesh that passed the checks fit.
pub mod Sizes
-- Plans: a plan, refusal by refusal, and its answer.
pub mod Plans
