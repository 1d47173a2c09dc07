-- What the writer of an image leaves in the lent area.
pub mod Laws
pub mod Whole
mod Witness
pub mod Written
