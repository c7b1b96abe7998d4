-- Words of inner contracts. Arrays: what the arrays of the fixed sizes hold.
pub mod Arrays
