-- Trials made in turn, for whoever makes them.
pub mod Turns
pub mod Calls
