pub mod Accepted
pub mod Zeros
