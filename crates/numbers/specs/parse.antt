-- What the parts of reading a number give.
pub mod Halves
pub mod Parts
