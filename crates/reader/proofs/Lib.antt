pub mod Complete
pub mod Turns
