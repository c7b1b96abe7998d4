-- Words of inner contracts: statements about meshes that pass the checks.
-- Sound: what checks 4 to 8 let through.
pub mod Sound
-- Where the numbers of the fine vertices start.
pub mod Numbers
-- Sizes compared.
pub mod Growth
-- A mesh that passes checks 1 to 8.
pub mod Accepted
-- Check 7 by one number a face.
pub mod Across
