-- Words of inner contracts: statements about whole numbers.
-- Range: a coordinate is in range.
pub mod Range
