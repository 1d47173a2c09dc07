-- What an entry of data/numbers says.
pub mod Told
