-- Numbers that fit 64 bits.
pub mod Fitting
