-- What the crate promises: the square root of an f64, rounded once to the nearest f64 (`Sqrt`).
-- `Nearest` is what it is to be nearest; `Steps` is what its functions say to each other.
pub mod Sqrt
pub mod Nearest
pub mod Steps
