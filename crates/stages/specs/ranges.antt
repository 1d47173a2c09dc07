-- Bounds and ranges in code as the definition's, and the steps of their functions.
pub mod Checks
pub mod Dots
pub mod Sides
pub mod Signs
pub mod Values
