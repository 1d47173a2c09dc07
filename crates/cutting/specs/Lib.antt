-- Cutting a literal changes nothing: what is claimed stands in Statement, the witnesses beside it, and in proofs/ that they meet the premises.
pub mod Further
pub mod Statement
pub mod Witnesses
