-- Laws that the functions' proofs cite.
pub mod Counts
pub mod Turns
