-- What a caller in C is told.
pub mod Code
pub mod Split
pub mod Tokens
pub mod outcome
pub mod start
