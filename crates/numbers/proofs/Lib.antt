-- Laws over plain numbers that the functions' proofs cite.
pub mod Difference
pub mod Halves
pub mod Order
pub mod Small
pub mod Words
