-- From a yes of `check` to the theorem that an accepted move arrives, lowest first.
pub mod Steps
pub mod Yes
pub mod NanTimes
pub mod Facts
pub mod Distances
pub mod Nodes
pub mod CheckArrives
pub mod Premises
pub mod Worked
