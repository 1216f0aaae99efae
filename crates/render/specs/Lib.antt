pub mod Parts
pub mod Mixes
