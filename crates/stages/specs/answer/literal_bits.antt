-- Bits moved between lists of bytes: what is meant, the laws of it, and what a row of moves packs.
pub mod Packing
pub mod Places
pub mod Put
pub mod Rows
pub mod Runs
pub mod Witness
pub mod Worth
