-- Words of inner contracts: bit fields in and out of bytes, beside the rules.
-- BitList: the plain reading of the same, as lists of bits.
pub mod BitList
-- Writing: a buffer into which fields are written one behind another.
pub mod Writing
-- Entries: the law of a table's entries.
pub mod Entries
