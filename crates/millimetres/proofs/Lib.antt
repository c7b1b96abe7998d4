-- Laws of the millimetre report.
-- Exact: what is reported is the coordinate over 1024, and one division gives it.
pub mod Exact
