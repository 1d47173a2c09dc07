-- Where the starting value in force stands, as one number.
pub mod Told
