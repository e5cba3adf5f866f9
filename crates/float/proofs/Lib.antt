-- The cases that the proofs of the functions share, and facts about the operations.
pub mod Cases
pub mod Halving
pub mod Nan
