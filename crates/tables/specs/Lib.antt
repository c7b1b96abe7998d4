-- Lent: the meshes that slices hold, and what a call that is lent them keeps.
pub mod Lent
