-- Laws that the proofs cite.
pub mod Components
pub mod Concatenations
pub mod Lines
pub mod Whole
