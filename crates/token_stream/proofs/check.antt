-- Laws of the walks of 50 and 51 over plain variables, which the functions' proofs cite.
pub mod Walks
