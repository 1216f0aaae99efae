pub mod Joined
pub mod Prefixes
pub mod Records
pub mod Rooms
