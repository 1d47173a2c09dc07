-- What the readers and the writer of an image promise.
pub mod check
pub mod record_rules
pub mod token_tree
pub mod writer
