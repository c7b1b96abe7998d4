-- Decided: check 11 after the others, and what acceptance tells of lent memory.
pub mod Decided
-- Written: what the answer tells of the coordinates that were written, and cleared memory.
pub mod Written
