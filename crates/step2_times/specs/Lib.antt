-- What is said of the seven times of an attempt.
pub mod Facts
