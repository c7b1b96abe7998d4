-- Laws of lists.
-- What is in a list: after joining, mapping, choosing; at which place.
pub mod Membership
-- What holds of each element of a list.
pub mod Each
-- Lists without repeats, and their lengths.
pub mod Once
-- Tests over lists decide statements over lists.
pub mod Tests
-- Keys: a key is decided by its members.
pub mod Keys
-- The distinct keys of a list, in the order first met, and their places.
pub mod Distinct
-- Flat tables and their entries.
pub mod Tables
-- Finite statements, decided by computing.
pub mod Decide
-- Small lists of which the statements hold, and of which they do not.
pub mod Instance
