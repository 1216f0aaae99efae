pub mod Bytes
pub mod Answers
pub mod Messages
pub mod Steps
pub mod Streams
