pub mod New
pub mod Trials
pub mod Window
