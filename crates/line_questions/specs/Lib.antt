pub mod Suits
pub mod Questions
