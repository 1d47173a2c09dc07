-- The counts of the image.
pub mod Counting
