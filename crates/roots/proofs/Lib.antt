-- Worked quartics; what holds of all roots; and, for the code, the branches by need.
pub mod Examples
pub mod Laws
mod Needs
