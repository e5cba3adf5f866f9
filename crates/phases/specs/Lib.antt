pub mod Run
pub mod Times
pub mod Phase
pub mod Moved
