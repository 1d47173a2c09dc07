-- The merged components of every concatenation, and the answer's four parts.
pub mod Placing
pub mod Parts
