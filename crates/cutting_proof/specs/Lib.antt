-- Demand 3, proved: the pieces put together (Proved), and said of the run's own outcomes and areas (Run).
pub mod Assemble
pub mod Bare
pub mod Cut
pub mod Proved
pub mod Run
pub mod bits
pub mod component
pub mod stages
