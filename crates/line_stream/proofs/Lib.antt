-- The answers of the line entry as a stream of lines: what they are, whatever places are lent, and how long they are.
pub mod Replies
pub mod Answers
pub mod Lent
pub mod Ending
pub mod FirstQuestion
pub mod Whole
pub mod Ends
