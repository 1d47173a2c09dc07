-- Laws of a bound.
pub mod AtSign
pub mod Lone
