-- Laws of stage 2 of the range of a literal and of a filler.
pub mod Limits
pub mod Whole
