pub mod Jerks
