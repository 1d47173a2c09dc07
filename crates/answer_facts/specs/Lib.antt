-- Answers fit (fits), are read back (read), are merged from left to right (merge; that the definition merges the same stands in proofs/), and the stages in the code's order (stages).
pub mod fits
pub mod merge
pub mod read
pub mod stages
