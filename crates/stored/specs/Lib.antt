-- Words of inner contracts, beside the rules.
-- Reading: the checks of a file, part by part.
pub mod Reading
-- Form: the header that a mesh calls for, and the code's layout against the rules'.
pub mod Form
