-- The laws that the proof of what is admitted cites.
pub mod Refusing
