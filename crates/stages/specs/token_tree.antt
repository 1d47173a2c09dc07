-- The tables of an image, the items of a run as they stand there, and parts of its text.
pub mod Grown
pub mod Items
pub mod Laid
pub mod Parts
pub mod Rows
pub mod Table
