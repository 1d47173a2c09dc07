-- Stage 1 of a component: laws of its items.
pub mod Endings
pub mod Splits
pub mod Texts
pub mod Types
pub mod Wholes
