-- The times of the eleven attempts: how long they last, and what the replaced acceleration is off; `Facts` says it all.
pub mod Turned
pub mod Within
pub mod Less
pub mod Quotients
pub mod Residual
pub mod Ramps
pub mod Facts
pub mod Worked
