-- What a run asks before the stages.
pub mod Asked
