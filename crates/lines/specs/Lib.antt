-- Words of inner contracts, beside the rules.
-- Appended: a run of bytes behind what a buffer holds already.
pub mod Appended
-- Fitting: the meshes whose listing fits the output.
pub mod Fitting
-- Kinds: the corners and the letter of a kind of cells.
pub mod Kinds
