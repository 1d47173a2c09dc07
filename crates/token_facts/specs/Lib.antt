-- Theorems about tokens (document 02, L2): Statement has them all.
pub mod Dividing
pub mod Flat
pub mod Forests
pub mod Kinds
pub mod Lists
pub mod Outcomes
pub mod Prepared
pub mod Records
pub mod Statement
pub mod Streams
pub mod Totals
pub mod Turning
pub mod Walks
pub mod Weights
pub mod Witness
