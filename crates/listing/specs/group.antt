-- A concatenation's own line.
pub mod Line
