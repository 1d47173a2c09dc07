-- Why an entry was not read.
pub mod NoEntry
