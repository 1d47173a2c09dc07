-- Every refusal of the whole run has a number of document 01's table and places within the limits of an image.
pub mod Check
pub mod Component
pub mod Concatenation
pub mod Ends
pub mod Overall
pub mod Run
pub mod Statement
pub mod Tree
pub mod Witness
