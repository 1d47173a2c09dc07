-- The block of a concatenation, the blocks of all, and the head.
pub mod Headed
pub mod Listed
