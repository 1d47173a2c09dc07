-- Laws that the functions' proofs cite: the skip of an opener, one token, all tokens of a component, its rows.
pub mod Going
pub mod Skips
pub mod Spans
pub mod Steps
pub mod Whole
