-- Laws that the proofs of all parts cite.
pub mod Cases
pub mod Lists
