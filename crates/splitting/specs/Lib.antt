-- Words of inner contracts: what the contracts of the split cite.
-- Kinds: the kinds of cells that are split.
pub mod Kinds
-- Cells: the numbers of a cell's parts, and its children's corners from them.
pub mod Cells
-- Words: the tables of the edges and of the faces in the lent words.
pub mod Words
-- Ready: what splitting a mesh asks.
pub mod Ready
