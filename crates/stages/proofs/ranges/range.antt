-- A range: its text, its bounds, and the items around its dots.
pub mod Texts
pub mod Bounds
pub mod Dotted
pub mod Cuts
