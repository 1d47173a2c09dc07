-- Laws that the functions' proofs cite.
pub mod Ends
pub mod Loops
pub mod Places
