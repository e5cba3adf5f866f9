-- The ways out of `check`, what each leaves, what becomes of count and cause, and what a mark changes.
pub mod Ways
pub mod Left
pub mod Causes
pub mod Marks
