-- Shifts: shifts and masks of a machine word in plain arithmetic.
pub mod Shifts
-- Bytes: bytes and the number that they spell.
pub mod Bytes
-- Fields: the first bits of a file, a field, packed bits.
pub mod Fields
-- Encoding: the two round trips, and tables of fields.
pub mod Encoding
-- Writing: fields put one behind another are their stored form.
pub mod Writing
-- Windows: the few bytes that hold a field.
pub mod Windows
-- Waiting: bits that wait to be put, and a table's entries put through them.
pub mod Waiting
-- Tables: a table's entries, one by one.
pub mod Tables
-- BitList: the definitions by numbers mean what the lists of bits say.
pub mod BitList
-- IndexWidth: the count of binary digits, and what it holds.
pub mod IndexWidth
-- Coordinates: two's complement of 30 bits.
pub mod Coordinates
