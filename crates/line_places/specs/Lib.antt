pub mod Exactly
pub mod ActsAs
pub mod RestToRest
