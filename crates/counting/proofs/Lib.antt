-- Sizes: what a round makes of bounded sizes; the rounds that are left.
pub mod Sizes
