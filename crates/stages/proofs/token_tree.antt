-- How the items of a run stand in the record table.
pub mod Chunks
pub mod Forests
pub mod Insides
pub mod Lasts
pub mod Places
pub mod Roots
pub mod Same
pub mod Stepping
pub mod Trees
pub mod Walks
pub mod Written
