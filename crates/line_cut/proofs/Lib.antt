-- What the code's loops and the laws of a stream stand on; `Whole` is the law over any cutting of an input.
pub mod Copies
pub mod Feeds
pub mod Keeping
pub mod Streaming
pub mod Turns
pub mod Taken
pub mod Whole
pub mod Bounds
pub mod Ends
