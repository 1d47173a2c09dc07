-- What a refusal in code says of document 01.
pub mod Reasoned
pub mod Reasons
pub mod Refused
