-- The arm of `ask` for two shapes; what other crates use of the shapes; and their counts and causes.
pub mod Arms
pub mod Keeps
pub mod Calls
