-- A buffer that always has room for the program's output.
pub mod Printed
