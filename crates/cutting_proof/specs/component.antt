-- Stages 1 and 2 of a literal and of its pieces: stated in Statement, proved in Proof from the files above it.
pub mod Colons
pub mod Fitting
pub mod Fixed
pub mod Forests
pub mod Literals
pub mod Offsets
pub mod Proof
pub mod Statement
pub mod Witness
