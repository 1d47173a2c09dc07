-- Laws that the functions' proofs cite.
pub mod Checked
pub mod Kept
pub mod Places
