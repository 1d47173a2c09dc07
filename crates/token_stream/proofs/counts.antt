-- Laws of the counts over plain variables, which the functions' proofs cite.
pub mod Tallies
pub mod Walk
