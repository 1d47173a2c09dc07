-- Where the bits of a cut literal lie: stated in Statement, proved beside it.
pub mod Holding
pub mod Merging
pub mod Places
pub mod Runs
pub mod Staged
pub mod Statement
pub mod Widths
