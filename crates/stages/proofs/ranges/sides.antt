-- Laws of the two sides of a bound's sign.
pub mod Texts
pub mod Ways
