-- What the numbers of 128 bits mean, and the steps towards it.
pub mod Order
pub mod Steps
pub mod Value
pub mod digit
pub mod parse
