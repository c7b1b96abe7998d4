-- Words of inner contracts: statements about lists.
-- Membership: an element is in a list; no element is in it twice.
pub mod Membership
