-- Laws of the tests of a component.
pub mod Tested
