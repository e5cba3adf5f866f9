-- Each attempt has a line that it answers, and that arrives.
pub mod Whole
pub mod Tests
pub mod Worked
