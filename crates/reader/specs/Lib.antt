pub mod Readers
pub mod Tallies
