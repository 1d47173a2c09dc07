-- Laws of both stages of one component.
pub mod Verdicts
