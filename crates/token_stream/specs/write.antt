-- What is written: tokens, components, concatenations, the image.
pub mod Steps
pub mod Written
