-- Which places the line entry fills: the theorems of demand 1 in plain form, and what they are made of; and which lines
-- are answered as lines of another kind.
pub mod Bytes
pub mod Replies
pub mod Places
pub mod ActsAs
pub mod RestToRest
