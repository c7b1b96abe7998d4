-- Laws that the checks share.
-- Library: the library's words in the rules'.
pub mod Library
-- Slices: parts of a slice that a call is lent.
pub mod Slices
-- WalkLaws: the walk of a mesh by number.
pub mod WalkLaws
-- PlainParts: no edge and no face names a corner twice.
pub mod PlainParts
-- CornerSets: when two cells have one corner set.
pub mod CornerSets
-- ByKind: the checks by table.
pub mod ByKind
-- Counting: a loop that counts distinct keys.
pub mod Counting
-- Mismatch: check 7 by number.
pub mod Mismatch
-- Marking: marks of corners.
pub mod Marking
-- Windows: a loop over vertices, some at a time.
pub mod Windows
-- TaggedLaws: a table of keys with tags.
pub mod TaggedLaws
-- ClassLaws: edges, faces or cells in classes.
pub mod ClassLaws
-- Sweeps: one class, met one after the other; all classes, one after the other.
pub mod Sweeps
-- Duplicates: check 6 and the sizes by counts of distinct keys.
pub mod Duplicates
-- Passed: what the first checks let through.
pub mod Passed
