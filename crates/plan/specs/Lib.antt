-- Words of inner contracts. Planned: what the checks before a round find.
pub mod Planned
