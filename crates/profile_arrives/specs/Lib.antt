-- What is asked of a profile, and what it is to arrive.
pub mod Reply
pub mod Arrives
