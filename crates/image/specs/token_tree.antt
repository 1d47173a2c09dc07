-- What the reader of the image's tables answers, as the definition's.
pub mod Tables
