pub mod Loops
pub mod Parts
