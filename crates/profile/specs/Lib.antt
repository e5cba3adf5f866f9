pub mod Parts
pub mod Check
pub mod Boundary
pub mod Timing
