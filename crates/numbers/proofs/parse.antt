-- Laws of reading a number, which the functions' proofs cite, here and in parse.
pub mod Digits
pub mod Product
pub mod Reading
pub mod ShortDecimal
pub mod Signs
