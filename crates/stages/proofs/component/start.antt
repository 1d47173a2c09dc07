-- The starting value: laws of its colon, its text and its place.
pub mod Afters
pub mod Colons
pub mod Prefixes
pub mod Sources
