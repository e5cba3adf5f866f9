-- Laws of the bytes of a reply, and of its characters in the lent places.
pub mod Rows
pub mod Written
