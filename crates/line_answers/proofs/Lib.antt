-- The ways out of a reply and of a line of twelve numbers, and the record that a reply is made of.
pub mod Replies
pub mod Records
pub mod Moves
