-- Laws of the set; worked insertions; what holds of every number of a set and of the order of trial; and, for the code,
-- a set's places.
pub mod Sets
pub mod Examples
pub mod Laws
mod Places
