-- Laws that the proofs cite.
pub mod Decimals
pub mod Signs
