-- Tables: the table of smallest parts.
pub mod Tables
-- KindParts: the parts of each kind of cells.
pub mod KindParts
-- Walk: cells walked one after the other.
pub mod Walk
-- Fine: the children of all cells, in the words of the rules.
pub mod Fine
-- Round: the calls of the driver.
pub mod Round
