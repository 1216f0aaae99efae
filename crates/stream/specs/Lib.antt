pub mod Pitch
pub mod Copies
