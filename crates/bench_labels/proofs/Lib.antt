-- What the exported checks leave.
pub mod Left
