-- The stages of a tree with a literal, and of the tree with its pieces: stated in Statement, proved beside it.
pub mod Checked
pub mod Cuts
pub mod Early
pub mod Keeping
pub mod Later
pub mod Overall
pub mod Running
pub mod Starting
pub mod Statement
