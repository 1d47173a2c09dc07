-- A number of 128 bits.
pub mod Halves
