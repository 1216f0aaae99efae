pub mod Library
pub mod Ordering
pub mod Roots
