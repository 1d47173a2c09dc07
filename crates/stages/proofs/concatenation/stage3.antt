-- Laws that the functions' proofs cite.
pub mod Done
pub mod Parts
