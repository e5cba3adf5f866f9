pub mod Quartics
