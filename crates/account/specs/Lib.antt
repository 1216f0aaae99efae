pub mod Runs
pub mod Code
pub mod Methods
pub mod Host
