-- The scan for dots.
pub mod Scans
