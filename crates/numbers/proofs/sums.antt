-- Laws over plain numbers that the functions' proofs cite.
pub mod Sums
