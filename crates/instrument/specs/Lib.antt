pub mod View
pub mod Calls
pub mod Levels
pub mod Asked
pub mod Plans
pub mod Mixes
