-- Blocks next to blocks, the bytes of a bound, and a component's bytes as the definition's.
pub mod Components
pub mod Joins
pub mod Words
