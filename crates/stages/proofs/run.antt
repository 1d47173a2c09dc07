-- From what each part says to what the whole run says.
pub mod Lengths
pub mod Ordered
pub mod Outcomes
pub mod Starting
pub mod Force
pub mod Judging
