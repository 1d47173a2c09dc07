-- How long a listing can be.
pub mod Lines
pub mod Words
pub mod run
