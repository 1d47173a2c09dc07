-- The parts of the image check, over numbers that were read already.
pub mod Parts
