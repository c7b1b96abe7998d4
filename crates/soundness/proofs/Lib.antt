-- Laws of sound meshes.
-- The parts of one cell of each kind, and of its children: finite facts.
pub mod CellParts
-- The cells of any topology, the parts met in them, and the cells of a split.
pub mod Cells
-- The fine vertices of a cell's parts; a part of the fine mesh as all that lies between two parts of one cell.
pub mod FineParts
-- A part of the fine mesh in two cells: it may be taken in either, and it decides its ends.
pub mod SharedParts
-- How many distinct edges, faces and hexes a split has.
pub mod FineCounts
-- The faces of a split, going round.
pub mod FineFaces
-- A split of a sound topology is sound.
pub mod SplitSound
-- The numbers of the fine vertices.
pub mod Numbers
-- The sizes of a split, round after round.
pub mod SplitSizes
-- The checks and the statement agree.
pub mod Checks
-- Meshes, round after round.
pub mod Rounds
-- A face's neighbours in going round are decided by what is across one corner.
pub mod Opposite
-- Check 7 by keys and one more number a face.
pub mod Across
-- A mesh with cells of each kind, to which the laws apply.
pub mod Instance
-- A topology for each of checks 4 to 8 that is not sound.
pub mod Unsound
