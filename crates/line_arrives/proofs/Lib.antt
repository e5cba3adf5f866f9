-- Demand 3 over the characters of a line and of its reply:
-- the theorem, and what carries it from the record to the characters.
pub mod Characters
pub mod Rows
pub mod Agreeing
pub mod Carried
pub mod Answered
pub mod Theorem
