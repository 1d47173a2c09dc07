-- Laws that the theorems share: tests, lists, and answers that may refuse.
pub mod Lists
pub mod Numbers
pub mod Padded
pub mod Results
pub mod Rows
pub mod Sets
pub mod Tests
pub mod Writing
