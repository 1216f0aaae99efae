pub mod View
pub mod Check
pub mod Room
pub mod Plans
pub mod Mixes
