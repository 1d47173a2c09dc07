-- A token, by the numbers of its entry.
pub mod Kinds
pub mod Tokens
