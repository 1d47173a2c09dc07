-- What the parts of the tokens' code promise.
pub mod Admitted
pub mod counts
pub mod list
pub mod write
