-- The starting value in force: where it stands, and the bytes that stand there.
pub mod InForce
