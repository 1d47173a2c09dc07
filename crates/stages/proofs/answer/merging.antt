-- Bits and blocks behind others, and the walk over a concatenation.
pub mod Appended
pub mod Closing
pub mod Steps
pub mod Stored
pub mod Turns
pub mod Whole
