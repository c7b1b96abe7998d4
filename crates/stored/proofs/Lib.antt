-- HeaderChecks: the fields of the header make the checks 13, 14, 2 and 15.
pub mod HeaderChecks
-- Acceptance: what an accepted file, and an accepted mesh, are known to be.
pub mod Acceptance
-- FileChecks: the checks of a file's parts in a row.
pub mod FileChecks
-- Form: the fields of a mesh stand in a file where the layout says.
pub mod Form
-- Bounds: no number that the layout is made of overflows.
pub mod Bounds
-- Corners: a test of the fields of a row.
pub mod Corners
-- BodyChecks: the length and the fields behind the header make the checks 13, 16 and 4.
pub mod BodyChecks
-- Inverse: reading and writing undo each other.
pub mod Inverse
-- Storing: what the code stores and puts is what reading and writing leave.
pub mod Storing
-- Answers: the returns of the two entry points, case by case.
pub mod Answers
