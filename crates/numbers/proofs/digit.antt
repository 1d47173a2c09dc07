-- The table's rule.
pub mod Table
pub mod Worths
