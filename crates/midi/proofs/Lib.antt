pub mod Feeding
pub mod Scanned
pub mod Whole
pub mod Encoded
pub mod Ranges
