-- Laws of the search for the sign of a bound.
pub mod CutParts
pub mod Cuts
pub mod Signing
