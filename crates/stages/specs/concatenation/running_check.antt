-- What the values of this crate mean.
pub mod Running
