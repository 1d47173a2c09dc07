-- The image check's rules over numbers that were read already.
pub mod Rules
