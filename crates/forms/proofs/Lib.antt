mod Chains
mod Modes
mod Lines
