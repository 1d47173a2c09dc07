-- What an answer's head says of the starting value.
pub mod Heads
