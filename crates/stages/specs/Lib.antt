-- What the values of the stages mean, and what each function promises.
pub mod Witness
pub mod admission
pub mod answer
pub mod component
pub mod concatenation
pub mod in_force
pub mod ranges
pub mod run
pub mod token_tree
