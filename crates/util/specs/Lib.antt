pub mod Integrate
