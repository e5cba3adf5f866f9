-- Laws of the eight bytes of a number, and of the test whether it is finite.
pub mod Eight
pub mod Finite
