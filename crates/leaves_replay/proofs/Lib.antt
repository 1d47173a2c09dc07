-- What the program's test says of a number.
pub mod Agreeing
