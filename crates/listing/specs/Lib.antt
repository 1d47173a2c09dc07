-- What an outcome and an answer of the listing mean.
pub mod Outcomes
pub mod Parts
pub mod Shown
pub mod decimal
pub mod group
pub mod words
pub mod writer
