-- Merging from left to right is the definition's.
pub mod Runs
