-- Laws of this crate.
-- Fronts: a mesh at the front of tables that it was stored in.
pub mod Fronts
-- Answers: the fixed sizes, and a refusal that is handed on.
pub mod Answers
-- Finished: a stored mesh that was refined.
pub mod Finished
