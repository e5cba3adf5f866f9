-- The ways out of the line entry.
pub mod Entry
