-- Laws of the loop of stages 1 and 2.
pub mod Cutting
pub mod Each
pub mod Forest
pub mod Going
pub mod Rounds
pub mod Standing
pub mod Turning
pub mod Whole
