-- Laws of the tokens that the walks' proofs cite.
pub mod Dividers
