-- Merging from left to right, as the code walks.
pub mod Runs
