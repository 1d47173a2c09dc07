-- Prepared images are trees written down: what is claimed stands in Statement, the proofs beside it.
pub mod Bits
pub mod Bytes
pub mod Components
pub mod Groups
pub mod Layout
pub mod Prepared
pub mod Records
pub mod Statement
pub mod Tables
pub mod Written
pub mod back
