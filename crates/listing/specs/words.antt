-- The words of a line.
pub mod Spaced
