-- What a byte is worth as a digit.
pub mod Readings
pub mod Worth
