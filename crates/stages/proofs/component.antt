-- Laws of kept components that the stages behind cite too.
pub mod Keeping
