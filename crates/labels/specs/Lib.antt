pub mod Labels
pub mod Causes
pub mod Tests
