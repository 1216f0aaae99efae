pub mod Frames
pub mod Slopes
