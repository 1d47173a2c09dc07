-- Stages 3 and 4: the running check, the heads that stage 3 leaves, and stage 4 over them.
pub mod Check
pub mod Heads
pub mod Overall
pub mod alignment
pub mod running_check
pub mod width
