mod Prints
mod Turns
