-- The stages in turn, with stages 1 and 2 of each component in one go.
pub mod Default
pub mod Each
pub mod Proved
pub mod Statement
