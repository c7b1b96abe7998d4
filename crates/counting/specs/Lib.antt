-- Words of inner contracts: Bounded has sizes up to a bound.
pub mod Bounded
