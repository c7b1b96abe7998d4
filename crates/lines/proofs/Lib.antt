-- Laws of this crate.
-- Runs: runs of bytes, one after another.
pub mod Runs
-- Digits: the decimal digits of a number.
pub mod Digits
-- Fields: the lines of the rules as runs of bytes.
pub mod Fields
-- Held: the cells that hold a vertex, counted.
pub mod Held
-- Longest: how long the lines of a mesh can be.
pub mod Longest
-- Listed: what is listed of a refusal and of a finished mesh.
pub mod Listed
