-- Laws of the numbers of a frame.
pub mod Numbers
pub mod Finite
