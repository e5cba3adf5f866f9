pub mod Cut
pub mod Stream
