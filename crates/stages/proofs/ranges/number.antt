-- Laws of the number that a text is.
pub mod Letters
