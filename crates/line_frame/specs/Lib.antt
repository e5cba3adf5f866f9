pub mod Frame
pub mod Numbers
