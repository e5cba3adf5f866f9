-- Laws of the table of kinds, and of the refusals.
pub mod Rows
pub mod Numbers
