-- The answer of an image that passes the check fits the area that the run asks for.
pub mod Accepts
pub mod Fixed
pub mod Kept
pub mod Merged
pub mod Normal
pub mod Proved
pub mod Staged
pub mod Statement
pub mod Trees
pub mod Witness
