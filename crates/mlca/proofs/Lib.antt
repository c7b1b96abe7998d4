-- Laws of this crate.
-- Numbers: an answer as one number.
pub mod Numbers
-- Calls: what the viewer's calls answer and leave, call by call.
pub mod Calls
-- Promised: what the viewer's refining promises of the mesh that it wrote.
pub mod Promised
