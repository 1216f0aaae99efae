pub mod Frequency
pub mod Temperament
