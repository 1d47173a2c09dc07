-- A component in code as the definition's, the steps of stages 1 and 2, the starting value, and the loop that keeps components.
pub mod Kept
pub mod Parse
pub mod Read
pub mod Stage2
pub mod Start
pub mod Tests
pub mod Values
