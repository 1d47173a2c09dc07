-- The answer area: blocks of bytes from words, merged components, and the whole answer.
pub mod Blocks
pub mod Sizes
pub mod Stage5
pub mod literal_bits
pub mod merging
