-- That no listing is longer: what rests on the bounds of specs/ that a must-fail edit makes false.
pub mod Lines
pub mod Words
pub mod run
