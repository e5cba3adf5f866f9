pub mod Ops
pub mod Helpers
