pub mod Numbers
pub mod Order
pub mod OrderLaws
pub mod Root
pub mod Rounded
pub mod Signs
pub mod Levels
