-- Merged components in the answer area, and what the code holds between two components.
pub mod Blocks
pub mod Literals
pub mod Put
pub mod State
