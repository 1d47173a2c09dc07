-- What a writer has written in its lent buffer.
pub mod Put
pub mod Writes
