-- Words of inner contracts. Lengths: what is lent, as the rules speak of it.
pub mod Lengths
