pub mod Quartic
pub mod Fits
