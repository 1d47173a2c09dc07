-- Laws of stage 2 of a component: on the definition alone, then the code against it.
pub mod Defined
pub mod Ends
pub mod Given
pub mod Cuts
pub mod Answers
