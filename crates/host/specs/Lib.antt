pub mod Said
pub mod Hosted
pub mod Events
