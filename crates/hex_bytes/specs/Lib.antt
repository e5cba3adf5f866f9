pub mod Hex
pub mod Steps
