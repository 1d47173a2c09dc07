-- What the number means.
pub mod Code
