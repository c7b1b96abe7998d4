-- Stores: runs of stores, and loops that store.
pub mod Stores
