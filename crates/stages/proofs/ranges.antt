-- Laws of ranges that components cite too: stage 2 on the definition alone, and bounds in code.
pub mod Bounds
pub mod Checked
