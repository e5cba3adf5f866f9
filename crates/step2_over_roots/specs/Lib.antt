pub mod OverRoots
