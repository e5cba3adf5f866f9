-- Laws of reading a number off its digits and of writing one.
pub mod Both
