pub mod Start
pub mod Gates
pub mod Ticks
