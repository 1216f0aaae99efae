pub mod Once
mod Spelt
mod Decimals
mod Words
mod Spells
