-- Definitions of the exact numbers, and of the exact motion, that the laws of rounding speak of.
pub mod Exact
pub mod Value
pub mod Bounds
pub mod Motion
pub mod Step
pub mod Run
