-- Laws of stage 2 of a range in code.
pub mod Gates
pub mod Joins
