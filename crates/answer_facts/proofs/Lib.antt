-- That merging from left to right is the definition's merging: it rests on the walk of specs/, which a must-fail edit changes.
pub mod merge
