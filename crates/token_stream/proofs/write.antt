-- Laws that the proofs of what is written cite.
pub mod Dividers
pub mod Joining
pub mod Rounds
pub mod Turns
pub mod Whole
